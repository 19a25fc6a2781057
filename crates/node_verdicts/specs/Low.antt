-- Where the parts of the sets of a cache begin.
use Rattle.std.specs.Prelude.{ℕ, ◌*◌, min}

-- the first set of a part, where each has `size` sets, up to all of them; that of the next part is where it ends
abbrev pub low_of : ℕ → ℕ → ℕ → ℕ
low_of size sets part = min (part * size) sets
