-- The arguments of a command line, each as its bytes.
use Rattle.std.specs.Prelude.{ℕ, List, map, String, string_bytes}
use Rattle.std.specs.declared.alloc.Global.{Global}

abbrev pub bytes_of : List (String Global) → List (List ℕ)
bytes_of words = map string_bytes words
