mod InPlace
pub mod Book
pub mod Drawer
