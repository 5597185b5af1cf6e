pub mod Book
pub mod BookHost
pub mod Drawer
pub mod DrawerHost
pub mod Examples
pub mod Keeper
