-- The seats converted, and next as it is.
use mathlib.Core.Path.{◌∙◌}
use native.Mathlib.Omega.{arith}
use lib.ListN.{length-set}
use Rattle.search.specs.Clinic.{no_seat}
use Rattle.host.specs.Records.{host_seat_of, host_desk_of}
use Rattle.search.proofs.Filled.{one_more, all_made}
use Rattle.host.proofs.convert.HostDeskFromDesk.from.Goals as goal

pub loop-c-preserved : goal.loop-c-preserved
loop-c-preserved c =
    let made = c.loop-c in (
      length-set made.seats made.c c.from.result ∙ made.invariant.0,
      one_more host_seat_of c.args.desk.seats made.seats no_seat made.c c.from.result (omega arith) (omega arith) c.from.ensures
          made.invariant.1,
    )

pub returns : goal.returns
unfolding host_desk_of
returns c =
    let made = c.loop-c in
    rw (all_made host_seat_of c.args.desk.seats made.seats made.c (omega arith) (omega arith) made.invariant.1)
