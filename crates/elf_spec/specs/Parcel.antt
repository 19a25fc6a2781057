-- The parcels of an image, of two bytes each, and the longs, of four, which begin at any even address.
use Rattle.std.specs.Prelude.{ℕ, ◌%◌, Bool, Option, None, option_map, ◌==◌, if◌then◌else◌, is_some, IsTrue}
use Rattle.elf_spec.specs.Number.{u16_at, u32_at}
use Rattle.elf_spec.specs.Image.{Image}
use Rattle.elf_spec.specs.Word.{segment_with, place_in, IsNext}

-- the parcel at an address: a multiple of 2 whose two bytes lie in one segment, read as little endian
unfoldable pub parcel_at : Image → ℕ → Option ℕ
parcel_at image address =
    if address % 2 == 0
    then option_map (λ segment. u16_at image.file (place_in segment address)) (segment_with 2 image address)
    else None

-- the long at an address: a multiple of 2 whose four bytes lie in one segment, read as little endian
unfoldable pub long_at : Image → ℕ → Option ℕ
long_at image address =
    if address % 2 == 0
    then option_map (λ segment. u32_at image.file (place_in segment address)) (segment_with 4 image address)
    else None

-- the address has a parcel
abbrev pub has_parcel : Image → ℕ → Bool
has_parcel image address = is_some (parcel_at image address)

abbrev pub HasParcel : Image → ℕ → Type 0
HasParcel image address = IsTrue (has_parcel image address)

-- the least address at or above one that has a parcel
abbrev pub IsNextParcel : Image → ℕ → Option ℕ → Type 0
IsNextParcel image from next = IsNext (has_parcel image) from next
