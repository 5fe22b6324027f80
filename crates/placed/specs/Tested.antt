-- What the test of an option that was placed answers, as the definitions have it: no rule, or the number of the rule broken.
use Rattle.std.specs.Prelude.{ℕ, Option, None, Some}
use Rattle.std.proofs.Math.Option as defined

abbrev pub rule_broken : Option ℕ → defined.Option ℕ
rule_broken None = defined.none
rule_broken (Some number) = defined.some number
