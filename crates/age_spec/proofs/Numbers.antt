-- Ages as numbers: their order, where they meet, and what a fetch makes of one.
use Rattle.std.proofs.Common.{◌≡◌, ℕ, ◌-◌, ◌<◌, ◌≤◌, Bool, cond, refl, ap, inl, inr, arith}
use Rattle.std.proofs.lemmas.Bool.{cases_lt, cases_eq, lt-ltb, le-ltb, le-leb, lt-leb}
use Rattle.age_spec.specs.declared.kind.Kind.{Kind}
use Rattle.age_spec.specs.declared.kind.Kind.TheVariants.{Must, May}
use Rattle.age_spec.specs.Ages.{grown, aged, met, IsBelow}
use Rattle.age_spec.proofs.Places.{Moves}

-- the order
pub below_same : (kind : Kind) (x : ℕ) → IsBelow kind x x
below_same Must x = omega arith
below_same May x = omega arith

pub below_trans : (kind : Kind) (x y z : ℕ) → IsBelow kind x y → IsBelow kind y z → IsBelow kind x z
below_trans Must x y z one two = omega arith
below_trans May x y z one two = omega arith

pub below_both : (kind : Kind) (x y : ℕ) → IsBelow kind x y → IsBelow kind y x → x ≡ y
below_both Must x y one two = omega arith
below_both May x y one two = omega arith

-- its least upper bounds
pub met_left : (kind : Kind) (x y : ℕ) → IsBelow kind x (met kind x y)
met_left Must x y = omega arith
met_left May x y = omega arith

pub met_right : (kind : Kind) (x y : ℕ) → IsBelow kind y (met kind x y)
met_right Must x y = omega arith
met_right May x y = omega arith

pub met_least : (kind : Kind) (x y z : ℕ) → IsBelow kind x z → IsBelow kind y z → IsBelow kind (met kind x y) z
met_least Must x y z one two = omega arith
met_least May x y z one two = omega arith

pub met_few : (kind : Kind) (k x y : ℕ) → x ≤ k → y ≤ k → met kind x y ≤ k
met_few Must k x y one two = omega arith
met_few May k x y one two = omega arith

pub met_none : (kind : Kind) → met kind 0 0 ≡ 0
met_none Must = refl
met_none May = refl

-- a must age grows where it is less than the fetched block's
must_older : (k f x : ℕ) → x < f → aged Must k f x ≡ grown k x
must_older k f x less = ap (λ (b : Bool). cond b (grown k x) x) (lt-ltb x f less)

must_stays : (k f x : ℕ) → f ≤ x → aged Must k f x ≡ x
must_stays k f x more = ap (λ (b : Bool). cond b (grown k x) x) (le-ltb x f more)

-- a may age grows where it is no greater
may_older : (k f x : ℕ) → x ≤ f → aged May k f x ≡ grown k x
may_older k f x less = ap (λ (b : Bool). cond b (grown k x) x) (le-leb x f less)

may_stays : (k f x : ℕ) → f < x → aged May k f x ≡ x
may_stays k f x more = ap (λ (b : Bool). cond b (grown k x) x) (lt-leb x f more)

-- no age passes the ways
pub aged_few : (kind : Kind) (k f x : ℕ) → x ≤ k → aged kind k f x ≤ k
aged_few Must k f x few = elim (cases_lt x f) [
  | inl less ↦ omega (arith, must_older k f x less)
  | inr more ↦ omega (arith, must_stays k f x more)
]
aged_few May k f x few = elim (cases_lt f x) [
  | inl more ↦ omega (arith, may_stays k f x more)
  | inr less ↦ omega (arith, may_older k f x less)
]

-- ages above others stay above them
pub aged_more : (kind : Kind) (k f x g y : ℕ) → x ≤ k → y ≤ k → IsBelow kind f g → IsBelow kind x y
    → IsBelow kind (aged kind k f x) (aged kind k g y)
aged_more Must k f x g y few_x few_y fetched other = elim (cases_lt x f) [
  | inl less ↦ elim (cases_lt y g) [
    | inl less_y ↦ omega (arith, must_older k f x less, must_older k g y less_y)
    | inr more_y ↦ omega (arith, must_older k f x less, must_stays k g y more_y)
  ]
  | inr more ↦ elim (cases_lt y g) [
    | inl less_y ↦ omega (arith, must_stays k f x more, must_older k g y less_y)
    | inr more_y ↦ omega (arith, must_stays k f x more, must_stays k g y more_y)
  ]
]
aged_more May k f x g y few_x few_y fetched other = elim (cases_lt f x) [
  | inl more ↦ elim (cases_lt g y) [
    | inl more_y ↦ omega (arith, may_stays k f x more, may_stays k g y more_y)
    | inr less_y ↦ omega (arith, may_stays k f x more, may_older k g y less_y)
  ]
  | inr less ↦ elim (cases_lt g y) [
    | inl more_y ↦ omega (arith, may_older k f x less, may_stays k g y more_y)
    | inr less_y ↦ omega (arith, may_older k f x less, may_older k g y less_y)
  ]
]

-- ages that bound the places of a fetched block and of another one bound the other's place after the fetch
pub aged_bounds : (kind : Kind) (k a b c f x : ℕ) → Moves a b c → (a ≡ b → b ≡ k) → c ≤ k → a ≤ k → b ≤ k
    → IsBelow kind a f → IsBelow kind b x → IsBelow kind c (aged kind k f x)
aged_bounds Must k a b c f x moves apart few_c few_a few_b fetched other = elim (cases_lt b a) [
  | inl less ↦ elim (cases_lt x f) [
    | inl less_x ↦ omega (arith, moves.older less, must_older k f x less_x)
    | inr more_x ↦ omega (arith, moves.older less, must_stays k f x more_x)
  ]
  | inr more ↦ elim (cases_lt x f) [
    | inl less_x ↦ omega (arith, moves.stays more, must_older k f x less_x)
    | inr more_x ↦ omega (arith, moves.stays more, must_stays k f x more_x)
  ]
]
aged_bounds May k a b c f x moves apart few_c few_a few_b fetched other = elim (cases_lt b a) [
  | inl less ↦ elim (cases_lt f x) [
    | inl more_x ↦ omega (arith, moves.older less, may_stays k f x more_x)
    | inr less_x ↦ omega (arith, moves.older less, may_older k f x less_x)
  ]
  | inr more ↦ elim (cases_lt f x) [
    | inl more_x ↦ omega (arith, moves.stays more, may_stays k f x more_x)
    | inr less_x ↦ elim (cases_eq a b) [
      | inl same ↦ omega (arith, moves.stays more, may_older k f x less_x, apart same)
      | inr different ↦ omega (arith, moves.stays more, may_older k f x less_x, different)
    ]
  ]
]

-- how far up the order an age stands
abbrev pub rank : Kind → ℕ → ℕ → ℕ
rank Must k x = x
rank May k x = k - x

pub rank_few : (kind : Kind) (k x : ℕ) → x ≤ k → rank kind k x ≤ k
rank_few Must k x few = omega arith
rank_few May k x few = omega arith

pub rank_more : (kind : Kind) (k x y : ℕ) → x ≤ k → y ≤ k → IsBelow kind x y → rank kind k x ≤ rank kind k y
rank_more Must k x y few_x few_y below = omega arith
rank_more May k x y few_x few_y below = omega arith

pub rank_same : (kind : Kind) (k x y : ℕ) → x ≤ k → y ≤ k → rank kind k x ≡ rank kind k y → x ≡ y
rank_same Must k x y few_x few_y same = same
rank_same May k x y few_x few_y same = omega arith
