-- The digit strip after its use: zeros in its first 19 bytes, the rest as it was.
use Rattle.std.specs.Prelude.{ℕ, ◌-◌, min, if◌then◌else◌, List, ◌++◌, length, drop, replicate, nat_lt}

abbrev pub strip_length : ℕ
strip_length = 19

-- the first 19 bytes blanked
abbrev pub blanked : List ℕ → List ℕ
blanked strip = replicate (min strip_length (length strip)) 0 ++ drop strip_length strip

-- a strip that is too short is left alone
abbrev pub strip_after : List ℕ → List ℕ
strip_after strip = if nat_lt (length strip) strip_length then strip else blanked strip

-- digits at its end, and zeros before them
abbrev pub spread : List ℕ → List ℕ
spread digits = replicate (strip_length - length digits) 0 ++ digits
