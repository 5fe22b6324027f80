-- A rule that lies whole in a list: the bounds that its test gives, and that its rows are read from its own part of the
-- list alone.
use Prim.Native.Nat.{ℕ, zero, suc, ◌+◌, ◌*◌, ◌≤◌}
use mathlib.Core.Path.{◌≡◌, refl, ap}
use mathlib.Core.Bool.{Bool, true, false, cond, ◌&&◌}
use mathlib.Core.List.{List, [], ◌∷◌, map}
use native.Mathlib.Nat.{zero-add, suc-add, add_comm, mul-suc, le-add_right}
use borrow.Author.Tests.{leb-true}
use lib.ListN.{length, take, drop}
use lib.Seq.{take-take, take-nil}
use Rattle.builds.specs.Rule.{option_at, some_row, satisfies}
use Rattle.builds.specs.Catalogue.{arity, row_count, rows_begin, width, features_read, rows_read, rule_read}
use Rattle.builds.specs.Inner.Starts.{whole_rule}

pub record WholeRule (list : List ℕ) : Type 0 where
  pub has_header : 2 ≤ length list
  pub arity_low : 1 ≤ arity list
  pub arity_high : arity list ≤ 6
  pub in_list : width list ≤ length list

pub both : (a b : Bool) → (a && b) ≡ true → (a ≡ true) × (b ≡ true)
both true b e = (refl, e)
both false b e = (e, ap (λ (t : Bool). cond t true b) e)

pub whole : (list : List ℕ) → whole_rule list ≡ true → WholeRule list
whole list e =
    let first = both _ _ e in
    let second = both _ _ first.1 in
    let third = both _ _ second.1 in
    record {
      has_header = leb-true _ _ first.0;
      arity_low = leb-true _ _ second.0;
      arity_high = leb-true _ _ third.0;
      in_list = leb-true _ _ third.1;
    }

drop_take : (n m : ℕ) (l : List ℕ) → drop n (take (n + m) l) ≡ take m (drop n l)
drop_take zero m l = rw zero-add
drop_take (suc n) m [] = rw (suc-add, take-nil)
drop_take (suc n) m (x ∷ xs) = rw suc-add (drop_take n m xs)

-- m rows of k options are read from the first k · m numbers
rows_of_part : (k m : ℕ) (l : List ℕ) → rows_read k m (take (k * m) l) ≡ rows_read k m l
unfolding rows_read
rows_of_part k zero l = refl
rows_of_part k (suc m) l = rw (mul-suc, add_comm (k * m) k, take-take k (k + k * m) l (le-add_right k (k * m)), drop_take, rows_of_part k m (drop k l))

pub satisfied_by_parts : (list placed : List ℕ)
    → some_row (rows_read (arity list) (row_count list) (take (arity list * row_count list) (drop (rows_begin list) list)))
    (map (option_at placed) (features_read list))
    ≡ satisfies placed (rule_read list)
unfolding satisfies rule_read
satisfied_by_parts list placed = rw rows_of_part
