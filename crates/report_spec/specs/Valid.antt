-- Which lines have a text.
use Rattle.std.specs.Prelude.{ℕ, ◌==◌, ◌||◌, Bool, true, not, ◌&&◌, nat_le, nat_lt, Option, Some, None}
use Rattle.std.specs.List.{list_all}
use Rattle.transition_spec.specs.declared.way.Way.{Way}
use Rattle.report_spec.specs.declared.line.Line.{Line}
use Rattle.report_spec.specs.declared.line.Line.TheVariants.{At, Context, Unreachable}
use Rattle.report_spec.specs.declared.line.Verdict.{Verdict}
use Rattle.report_spec.specs.declared.line.Verdict.TheVariants.{AlwaysHit, AlwaysMiss, Unknown}

-- `n` or `t`
abbrev pub is_letter : ℕ → Bool
is_letter letter = letter == 110 || letter == 116

-- a path has a member, and its choices are letters
abbrev pub is_valid_way : Way → Bool
is_valid_way way = nat_lt 0 way.steps && list_all is_letter way.choices

abbrev pub is_valid_verdict : Verdict → Bool
is_valid_verdict AlwaysHit = true
is_valid_verdict AlwaysMiss = true
is_valid_verdict (Unknown hit miss) = is_valid_way hit && is_valid_way miss

-- there is a newest return address exactly where a call is open
abbrev pub has_back_as_deep : ℕ → Option ℕ → Bool
has_back_as_deep depth None = depth == 0
has_back_as_deep depth (Some address) = not (depth == 0)

abbrev pub is_valid : Line → Bool
is_valid (At at verdict) = is_valid_verdict verdict
is_valid (Context node at depth back verdict) = has_back_as_deep depth back && is_valid_verdict verdict
is_valid (Unreachable first last) = nat_le first last
