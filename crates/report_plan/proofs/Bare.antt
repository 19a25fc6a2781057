-- Ranges of addresses that have a line and no node.
use Rattle.std.proofs.Common.{◌≡◌, ℕ, zero, suc, ◌+◌, ◌-◌, ◌*◌, ◌/◌, ◌≤◌, List, ap, refl, sym, ◌∙◌, subst, arith}
use Rattle.std.specs.List.{Contains, AllByRecursion}
use Rattle.riscv_spec.specs.declared.parcel.Isa.{Isa}
use Rattle.riscv_spec.specs.declared.parcel.Isa.TheVariants.{Rv32i, Rv32ic}
use Rattle.report_spec.specs.Inner.{step_of}
use Rattle.report_spec.specs.Report.{addresses_from, range_addresses}
use Rattle.node_spec.specs.Plan.{Layout, IsBare, IsBareRange}

-- the address after this many steps
abbrev pub after : ℕ → ℕ → ℕ → ℕ
after step first zero = first
after step first (suc count) = after step (first + step) count

-- one step more
one-more : (step first count : ℕ) → after step first (suc count) ≡ after step first count + step
one-more step first zero = refl
one-more step first (suc count) = one-more step (first + step) count

-- what holds of the addresses of a range and of the one after it holds of the range with that one
all-more : (P : ℕ → Type 0) (step first count : ℕ) → AllByRecursion P (addresses_from step first count)
    → P (after step first count) → AllByRecursion P (addresses_from step first (suc count))
all-more P step first zero all next = (next, tt)
all-more P step first (suc count) all next = (all.0, all-more P step (first + step) count all.1 next)

-- a range has its last address
has-last : (step first count : ℕ) → Contains (addresses_from step first (suc count)) (after step first count)
has-last step first zero = (0, omega arith, refl)
has-last step first (suc count) =
    let rest = has-last step (first + step) count in (suc rest.0, omega (arith, rest.1), rest.2)

after-twos : (first count : ℕ) → after 2 first count ≡ first + 2 * count
after-twos first zero = omega arith
after-twos first (suc count) = omega (arith, after-twos (first + 2) count)

after-fours : (first count : ℕ) → after 4 first count ≡ first + 4 * count
after-fours first zero = omega arith
after-fours first (suc count) = omega (arith, after-fours (first + 4) count)

-- how many addresses a range has
count-is : (isa : Isa) (first count : ℕ)
    → (after (step_of isa) first count - first) / step_of isa + 1 ≡ suc count
count-is Rv32i first count = omega (arith, after-fours first count)
count-is Rv32ic first count = omega (arith, after-twos first count)

-- so far all addresses from the first to this one are bare
pub record IsBareTo (layout : Layout) (first last : ℕ) : Type 0 where
  pub count : ℕ
  pub is : last ≡ after (step_of layout.isa) first count
  pub bare : AllByRecursion (IsBare layout) (addresses_from (step_of layout.isa) first (suc count))

-- no address of a range is below its first
up : (step first count : ℕ) → first ≤ after step first count
up step first zero = omega arith
up step first (suc count) = omega (arith, up step (first + step) count)

pub bare-up : (layout : Layout) (first last : ℕ) → IsBareTo layout first last → first ≤ last
bare-up layout first last so_far = omega (arith, so_far.is, up (step_of layout.isa) first so_far.count)

-- one address more
pub bare-more : (layout : Layout) (first last next : ℕ) → IsBareTo layout first last
    → next ≡ last + step_of layout.isa → IsBare layout next → IsBareTo layout first next
bare-more layout first last next so_far is bare =
    let step = step_of layout.isa in
    let same : next ≡ after step first (suc so_far.count) =
    is ∙ ap (λ (last : ℕ). last + step) so_far.is ∙ sym (one-more step first so_far.count) in
    record {
      count = suc so_far.count;
      is = same;
      bare = all-more (IsBare layout) step first (suc so_far.count) so_far.bare (subst (IsBare layout) same bare);
    }

-- the range, where the address after it isn't bare
pub bare-range : (layout : Layout) (first last : ℕ) → IsBareTo layout first last
    → (IsBare layout (last + step_of layout.isa) → ⊥) → IsBareRange layout first last
bare-range layout first last whole ends =
    let step = step_of layout.isa in
    let same : range_addresses step first last ≡ addresses_from step first (suc whole.count) =
    ap (λ (last : ℕ). range_addresses step first last) whole.is
    ∙ ap (addresses_from step first) (count-is layout.isa first whole.count) in
    let P : List ℕ → Type 0 = λ addresses. AllByRecursion (IsBare layout) addresses in
    let Q : List ℕ → Type 0 = λ addresses. Contains addresses last in
    let R : ℕ → Type 0 = λ end. Contains (addresses_from step first (suc whole.count)) end in
    record {
      ends = subst Q (sym same) (subst R (sym whole.is) (has-last step first whole.count));
      bare = subst P (sym same) whole.bare;
      greatest = ends;
    }
