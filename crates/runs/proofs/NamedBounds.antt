-- What the code may rely on of a feature that passed the checks: it is below 16 and has at most 16 options, as in every
-- catalogue without a fault.
use Prim.Native.Nat.{ℕ, ◌≤◌, ◌<◌}
use mathlib.Core.Path.{◌≡◌}
use native.Mathlib.Omega.{arith}
use lib.ListN.{length}
use Rattle.builds.specs.Catalogue.{Catalogue, size_of}
use Rattle.builds.specs.Fault.{fault_of}
use Rattle.search.proofs.PlaceBounds.{few_features, size_within}

pub record FeatureBounds (catalogue : Catalogue) (i : ℕ) : Type 0 where
  pub feature_below_16 : i < 16
  pub size_at_most_16 : size_of catalogue i ≤ 16

pub feature_bounds : {catalogue : Catalogue} {i : ℕ} → fault_of catalogue ≡ 0 → i < length catalogue.sizes → FeatureBounds catalogue i
feature_bounds {catalogue} {i} fault below =
    record {
      feature_below_16 = omega (arith, few_features catalogue fault);
      size_at_most_16 = (size_within catalogue fault i below).1;
    }
