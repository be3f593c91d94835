use Rattle.std.proofs.Common.{◌≡◌, ◌∷◌, arith}
use Rattle.std.proofs.lemmas.Grind.{common_steps}
use Rattle.ix_tcpdef.specs.Body.{held_among}
use Rattle.ix_tcpdef.proofs.BodyLemmas.{held_among_none, held_among_before}
use Rattle.ix_tcpdef.proofs.body.insert_held.Goals as goal
use Rattle.ix_tcpdef.proofs.body.insert_held.Goals.{in-Some+then-new-first, in_default}

pub returns : goal.returns
returns c =
    let here : held_among c.args.new c.loop-first.rest ≡ c.args.new ∷ c.loop-first.rest = elim c.match-get.branch [
      | in-Some+then-new-first w ↦ grind (arith, common_steps, held_among_before, w)
      | in_default w ↦ grind (arith, common_steps, held_among_none, w)
    ] in
    grind (arith, common_steps, here, c.in_ok-append.ensures, c.in_ok-push-2.ensures.ok, c.loop-first.invariant)
