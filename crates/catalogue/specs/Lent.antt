-- A catalogue that is lent, as the definitions have it, and what a check of one answers.
use Rattle.std.specs.Prelude.{ℕ, Result, Ok, Err}
use Rattle.numbers.specs.declared.refusal.Refusal.{Refusal}
use Rattle.numbers.specs.Refusal.{number_of}
use Rattle.builds.specs.Catalogue.{Catalogue, catalogue_of}
use Rattle.catalogue.specs.declared.lent.Catalogue.{Catalogue as Lent}

abbrev pub catalogue_lent : Lent → Catalogue
catalogue_lent catalogue = catalogue_of catalogue.sizes.now catalogue.rules.now

-- what a check answers that hands something on: the number of its refusal, 0 for none
abbrev pub refused_number : {T : Type 0} → Result T Refusal → ℕ
refused_number (Ok handed) = 0
refused_number (Err refusal) = number_of refusal
