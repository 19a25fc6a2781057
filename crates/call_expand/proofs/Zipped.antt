-- Two lists of which each element fits the other's, and one list of which each element has a property.
use Rattle.std.proofs.Common.{◌≡◌, ℕ, zero, suc, ◌<◌, List, [], ◌∷◌, ◌++◌, length, map, get_or, take, refl, ap, arith}
use Rattle.std.specs.List.{AllZip, AllByRecursion}

-- the lists are as long as each other
pub zip-length : {A B : Type 0} (R : A → B → Type 0) (xs : List A) (ys : List B) → AllZip R xs ys
    → length xs ≡ length ys
zip-length R [] [] all = refl
zip-length R [] (y ∷ ys) all = absurd all
zip-length R (x ∷ xs) [] all = absurd all
zip-length R (x ∷ xs) (y ∷ ys) all = ap suc (zip-length R xs ys all.1)

-- elements at one index fit
pub zip-at : {A B : Type 0} (R : A → B → Type 0) (xs : List A) (ys : List B) (i : ℕ) (d : A) (e : B) → AllZip R xs ys
    → i < length xs
    → R (get_or xs i d) (get_or ys i e)
zip-at R [] ys i d e all below = absurd (omega arith)
zip-at R (x ∷ xs) [] i d e all below = absurd all
zip-at R (x ∷ xs) (y ∷ ys) zero d e all below = all.0
zip-at R (x ∷ xs) (y ∷ ys) (suc i) d e all below = zip-at R xs ys i d e all.1 (omega arith)

-- pairs of lists, one after the other
pub zip-append : {A B : Type 0} (R : A → B → Type 0) (xs us : List A) (ys vs : List B) → AllZip R xs ys → AllZip R us vs
    → AllZip R (xs ++ us) (ys ++ vs)
zip-append R [] us [] vs first second = second
zip-append R [] us (y ∷ ys) vs first second = absurd first
zip-append R (x ∷ xs) us [] vs first second = absurd first
zip-append R (x ∷ xs) us (y ∷ ys) vs first second = (first.0, zip-append R xs us ys vs first.1 second)

-- where each pair of which the first has P and that fits by R fits by S
pub zip-weaker : {A B : Type 0} (P : A → Type 0) (R S : A → B → Type 0) → ((x : A) (y : B) → P x → R x y → S x y)
    → (xs : List A) (ys : List B) → AllByRecursion P xs → AllZip R xs ys → AllZip S xs ys
zip-weaker P R S to [] [] has all = tt
zip-weaker P R S to [] (y ∷ ys) has all = absurd all
zip-weaker P R S to (x ∷ xs) [] has all = absurd all
zip-weaker P R S to (x ∷ xs) (y ∷ ys) has all = (to x y has.0 all.0, zip-weaker P R S to xs ys has.1 all.1)

-- a weaker property of each element
pub all-weaker : {A : Type 0} (P Q : A → Type 0) → ((x : A) → P x → Q x) → (xs : List A) → AllByRecursion P xs
    → AllByRecursion Q xs
all-weaker P Q to [] all = tt
all-weaker P Q to (x ∷ xs) all = (to x all.0, all-weaker P Q to xs all.1)

-- a property of each element of two lists, one after the other
pub all-append : {X : Type 0} (P : X → Type 0) (xs ys : List X) → AllByRecursion P xs → AllByRecursion P ys
    → AllByRecursion P (xs ++ ys)
all-append P [] ys first second = second
all-append P (x ∷ xs) ys first second = (first.0, all-append P xs ys first.1 second)

-- a property of each element of two lists, of each list alone
pub all-prefix : {X : Type 0} (P : X → Type 0) (xs ys : List X) → AllByRecursion P (xs ++ ys) → AllByRecursion P xs
all-prefix P [] ys all = tt
all-prefix P (x ∷ xs) ys all = (all.0, all-prefix P xs ys all.1)

pub all-back : {X : Type 0} (P : X → Type 0) (xs ys : List X) → AllByRecursion P (xs ++ ys) → AllByRecursion P ys
all-back P [] ys all = all
all-back P (x ∷ xs) ys all = all-back P xs ys all.1

-- the element at an index has it
pub all-at : {X : Type 0} (P : X → Type 0) (xs : List X) (i : ℕ) (d : X) → AllByRecursion P xs → i < length xs
    → P (get_or xs i d)
all-at P [] i d all below = absurd (omega arith)
all-at P (x ∷ xs) zero d all below = all.0
all-at P (x ∷ xs) (suc i) d all below = all-at P xs i d all.1 (omega arith)

-- what a function gives has a property, where the elements have that of what it gives
pub all-map : {A B : Type 0} (P : B → Type 0) (f : A → B) (xs : List A) → AllByRecursion (λ x. P (f x)) xs
    → AllByRecursion P (map f xs)
all-map P f [] all = tt
all-map P f (x ∷ xs) all = (all.0, all-map P f xs all.1)

-- two functions that agree on each element give the same list
pub map-same : {A B : Type 0} (f g : A → B) (xs : List A) → AllByRecursion (λ x. f x ≡ g x) xs → map f xs ≡ map g xs
map-same f g [] all = refl
map-same f g (x ∷ xs) all = cc (all.0, map-same f g xs all.1)

-- the pairs of the first i elements, with one more
pub zip-more : {A B : Type 0} (R : A → B → Type 0) (xs : List A) (ys : List B) (i : ℕ) (d : A) (y : B) → i < length xs
    → AllZip R (take i xs) ys
    → R (get_or xs i d) y → AllZip R (take (suc i) xs) (ys ++ y ∷ [])
zip-more R [] ys i d y below all one = absurd (omega arith)
zip-more R (x ∷ xs) [] zero d y below all one = (one, tt)
zip-more R (x ∷ xs) (z ∷ ys) zero d y below all one = absurd all
zip-more R (x ∷ xs) [] (suc i) d y below all one = absurd all
zip-more R (x ∷ xs) (z ∷ ys) (suc i) d y below all one = (all.0, zip-more R xs ys i d y (omega arith) all.1 one)
