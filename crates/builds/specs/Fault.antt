-- The fault met first, reading the sizes and then the rule list from the front: 10 to 18, or 0 for none.
use Rattle.std.specs.Prelude.{ℕ, zero, suc, ◌-◌, ◌*◌, Bool, true, cond, not, ◌&&◌, List, [], ◌∷◌, ◌++◌, map, length, get_or, drop, ltb, leb}
use Rattle.builds.specs.Lists.{member}
use Rattle.builds.specs.Checks.{when, or_else, first}
use Rattle.builds.specs.Catalogue.{Catalogue, arity, row_count, rows_begin, width, features_read, is_empty}

-- 1 to 16: a feature count, a size
abbrev pub one_to_16 : ℕ → Bool
one_to_16 n = leb 1 n && leb n 16

unfoldable pub sizes_fault : List ℕ → ℕ
sizes_fault sizes = first (map (λ (size : ℕ). when (not (one_to_16 size)) 11) sizes)

-- each feature in turn, 16 before 17; seen are those of this rule that were read already
unfoldable pub features_fault : ℕ → List ℕ → List ℕ → ℕ
features_fault count seen [] = 0
features_fault count seen (f ∷ fs) =
    first (when (not (ltb f count)) 16 ∷ when (member f seen) 17 ∷ features_fault count (seen ++ f ∷ []) fs ∷ [])

-- the row at the front of a list, option by option, each below its feature's size
unfoldable pub row_fits : List ℕ → List ℕ → List ℕ → Bool
row_fits sizes [] list = true
row_fits sizes (f ∷ fs) list = ltb (get_or list 0 0) (get_or sizes f 0) && row_fits sizes fs (drop 1 list)

unfoldable pub rows_fault : List ℕ → List ℕ → ℕ → List ℕ → ℕ
rows_fault sizes fs zero list = 0
rows_fault sizes fs (suc m) list = or_else (when (not (row_fits sizes fs list)) 18) (rows_fault sizes fs m (drop (length fs) list))

-- one rule, at the front of a list
unfoldable pub rule_fault : List ℕ → List ℕ → ℕ
rule_fault sizes list = first (when (ltb (length list) 2) 14 ∷ when (not (leb 1 (arity list) && leb (arity list) 6)) 15
    ∷ when (ltb (length list - 2) (arity list)) 14 ∷ features_fault (length sizes) [] (features_read list)
    ∷ when (ltb (length list - rows_begin list) (arity list * row_count list)) 14
    ∷ rows_fault sizes (features_read list) (row_count list) (drop (rows_begin list) list) ∷ [])

-- rule by rule while numbers remain; so many rules may still come
unfoldable pub rules_fault : ℕ → List ℕ → List ℕ → ℕ
rules_fault zero sizes list = when (not (is_empty list)) 13
rules_fault (suc n) sizes list =
    cond (is_empty list) 0 (or_else (rule_fault sizes list) (rules_fault n sizes (drop (width list) list)))

unfoldable pub fault_of : Catalogue → ℕ
fault_of catalogue = first (when (not (one_to_16 (length catalogue.sizes))) 10 ∷ sizes_fault catalogue.sizes
    ∷ when (ltb 8192 (length catalogue.list)) 12 ∷ rules_fault 64 catalogue.sizes catalogue.list ∷ [])
