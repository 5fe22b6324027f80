-- What the desk answers to a host's converted desk, handed back, is the call through the door.
use Prim.Native.Nat.{ℕ, zero, suc}
use mathlib.Core.Path.{◌≡◌, refl, ap, ◌∙◌}
use mathlib.Core.List.{List}
use Rattle.builds.specs.Catalogue.{Catalogue}
use Rattle.runs.specs.declared.Desk.{Desk}
use Rattle.runs.specs.Call.{Call}
use Rattle.runs.specs.Perform.{Outcome, perform}
use Rattle.host.specs.declared.records.HostDesk.{HostDesk}
use Rattle.host.specs.Records.{desk_of}
use Rattle.host.specs.Door.{desk_back, inside, handed_back, through_door}

module _ (catalogue : Catalogue) (call : Call) (given : HostDesk) (board : List ℕ) (desk : Desk) (converted : desk ≡ desk_of given) where
  pub called_inside : (outcome : Outcome) → outcome ≡ perform catalogue call (record { desk = desk; board = board })
      → outcome ≡ inside catalogue call given board
  called_inside outcome called =
      called ∙ ap (λ (d : Desk). perform catalogue call (record { desk = d; board = board })) converted

  pub through : (outcome : Outcome) → outcome ≡ perform catalogue call (record { desk = desk; board = board })
      → handed_back given outcome ≡ through_door catalogue call given board
  unfolding through_door
  through outcome called = ap (handed_back given) (called_inside outcome called)

pub own_desk_back : (number : ℕ) (given : HostDesk) (desk : Desk) → (number ≡ 0 → ⊥) → given ≡ desk_back number given desk
own_desk_back zero given desk refused = absurd (refused refl)
own_desk_back (suc number) given desk refused = refl
