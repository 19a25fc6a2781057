-- The text of an address, and the address that has a text.
use Rattle.std.proofs.Common.{◌≡◌, ℕ, ◌^◌, ◌<◌, Bool, true, List, ◌++◌, length, take, drop, Some, Ok, Err, Result, refl, sym, ap, ◌∙◌, arith}
use Rattle.std.specs.Prelude.{nat_le}
use Rattle.std.specs.Str.{bytes_eq}
use Rattle.std.specs.Int.{w32, from_be_bytes, to_be_bytes}
use Rattle.std.proofs.lemmas.Bool.{le-leb}
use Rattle.std.proofs.lemmas.List.{take_all, take_at, drop_at, take-append-drop, length-append}
use Rattle.std.proofs.lemmas.Nat.{from_be_bytes-to_be_bytes_4}
use Rattle.std.proofs.lemmas.Slice.Eq.{bytes_eq-Decides}
use Rattle.hex.specs.Hex.{decode_sized, encode_lower, lower_digits, IsBytes}
use Rattle.hex.proofs.HexLemmas.{length-encode_with, decode_sized-encode_lower, decode_sized-twice, decode_sized-ok, decode_of-ok}
use Rattle.hex.specs.declared.error.FromHexError.{FromHexError}
use Rattle.report_spec.specs.Text.{address_text}
use Rattle.report_spec.proofs.Addresses.{length-address_text, IsBytes-to_be_bytes}
use Rattle.verdict_report.specs.Reading.{guarded, spelled, address_of, address_at}
use Rattle.verdict_report.proofs.Steps.{bind_some, guarded_some, same_some}

-- an address of ten bytes, by the bytes that its digits spell
pub address_is : (prefix bytes : List ℕ) (p : ℕ) (test : Bool) → decode_sized (take 8 (drop 2 prefix)) 4 ≡ Ok bytes
    → from_be_bytes w32 bytes ≡ p
    → test ≡ bytes_eq (address_text p) prefix → address_of prefix ≡ guarded test p
unfolding address_of
address_is prefix bytes p test h is tested =
    rw h (ap (λ (q : ℕ). guarded (bytes_eq (address_text q) prefix) q) is ∙ ap (λ (t : Bool). guarded t p) (sym tested))

-- digits that spell bytes
spelled_some : (r : Result (List ℕ) FromHexError) (bytes : List ℕ) → spelled r ≡ Some bytes → r ≡ Ok bytes
spelled_some (Ok x) bytes h = ap Ok (same_some x bytes h)
spelled_some (Err e) bytes h = absurd cc

-- four bytes are a number of 32 bits
from_be_bytes-small : (bytes : List ℕ) → IsBytes bytes → from_be_bytes w32 bytes < 2 ^ 32
from_be_bytes-small bytes fits = omega (arith, fits 0, fits 1, fits 2, fits 3)

-- ten bytes that are read are the text of the address
pub address_of_takes : (prefix : List ℕ) (p : ℕ) → address_of prefix ≡ Some p → (address_text p ≡ prefix) × (p < 2 ^ 32)
unfolding address_of
address_of_takes prefix p h =
    let b = bind_some (spelled (decode_sized (take 8 (drop 2 prefix)) 4)) _ p h in
    let g = guarded_some (bytes_eq (address_text (from_be_bytes w32 b.0)) prefix) (from_be_bytes w32 b.0) p b.2 in
    let r = spelled_some (decode_sized (take 8 (drop 2 prefix)) 4) b.0 b.1 in
    let len = decode_sized-ok (take 8 (drop 2 prefix)) 4 b.0 r in
    let fits = (decode_of-ok (take 8 (drop 2 prefix)) b.0 (sym (decode_sized-twice (take 8 (drop 2 prefix)) 4 len)
    ∙ r)).3 in
    let is : address_text (from_be_bytes w32 b.0) ≡ prefix =
    (bytes_eq-Decides (address_text (from_be_bytes w32 b.0)) prefix).0 g.0 in
    (ap address_text (sym g.1) ∙ is, rw (← g.1) (from_be_bytes-small b.0 fits))

-- the digits of an address are those of its bytes
digits_of_address : (p : ℕ) → take 8 (drop 2 (address_text p)) ≡ encode_lower (to_be_bytes w32 p)
unfolding address_text
digits_of_address p = take_all 8 (encode_lower (to_be_bytes w32 p))
    (omega (arith, length-encode_with lower_digits (to_be_bytes w32 p)))

-- the text of an address has this address
pub address_of_again : (p : ℕ) → p < 2 ^ 32 → address_of (address_text p) ≡ Some p
address_of_again p fits =
    let bytes = to_be_bytes w32 p in
    let decoded : decode_sized (take 8 (drop 2 (address_text p))) 4 ≡ Ok bytes =
    ap (λ (digits : List ℕ). decode_sized digits 4) (digits_of_address p)
    ∙ decode_sized-encode_lower bytes 4 refl (IsBytes-to_be_bytes p) in
    address_is (address_text p) bytes p true decoded (from_be_bytes-to_be_bytes_4 p fits)
    (sym ((bytes_eq-Decides (address_text p) (address_text p)).1 refl))

-- a text that has an address begins with the text of this address
pub address_takes : (text : List ℕ) (read : ℕ × List ℕ) → address_at text ≡ Some read
    → (text ≡ address_text read.0 ++ read.1) × (read.0 < 2 ^ 32)
unfolding address_at
address_takes text read h =
    let a = bind_some (guarded (nat_le 10 (length text)) (take 10 text)) _ read h in
    let g = guarded_some (nat_le 10 (length text)) (take 10 text) a.0 a.1 in
    let b = bind_some (address_of a.0) _ read a.2 in
    let e = same_some (b.0, drop 10 text) read b.2 in
    let t = address_of_takes a.0 b.0 b.1 in
    rw (← e) (sym (take-append-drop 10 text) ∙ ap (λ (l : List ℕ). l ++ drop 10 text) (g.1 ∙ sym t.0), t.1)

-- an address is read again, whatever follows
pub address_again : (p : ℕ) (rest : List ℕ) → p < 2 ^ 32 → address_at (address_text p ++ rest) ≡ Some (p, rest)
unfolding address_at
address_again p rest fits =
    let ten = length-address_text p in
    let long : nat_le 10 (length (address_text p ++ rest)) ≡ true =
    le-leb 10 (length (address_text p ++ rest)) (omega (arith, length-append (address_text p) rest)) in
    rw (long, take_at (address_text p) rest 10 ten, drop_at (address_text p) rest 10 ten, address_of_again p fits)
    refl
