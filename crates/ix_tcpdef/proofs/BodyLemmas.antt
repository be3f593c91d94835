-- The ends of the loops over held segments.
use Rattle.std.proofs.Common.{◌≡◌, ℕ, ◌≤◌, ◌<◌, List, [], ◌∷◌, Bool, arith, refl}
use Rattle.std.specs.Prelude.{slice_get, Some, None}
use Rattle.std.proofs.lemmas.Grind.{common_steps}
use Rattle.ix_tcpdef.specs.Needs.{EndsBy}
use Rattle.ix_tcpdef.specs.Body.{filled, held_among}
use Rattle.ix_tcpdef.specs.declared.types.HeldSegment.{HeldSegment}
use Rattle.ix_tcpdef.specs.declared.types.Job.{Job}

pub filled_none_left : (ss : List HeldSegment) (fin : Bool) (j : Job) → slice_get ss 0 ≡ None → filled ss fin j ≡ (j, fin)
unfolding filled
filled_none_left [] fin j h = refl
filled_none_left (s ∷ rest) fin j h = cc

pub filled_stops : (ss : List HeldSegment) (fin : Bool) (j : Job) (s : HeldSegment) → slice_get ss 0 ≡ Some s → j.connection.rcv < s.at → filled ss fin j ≡ (j, fin)
unfolding filled
filled_stops [] fin j s h lt = cc
filled_stops (t ∷ rest) fin j s h lt = grind (arith, common_steps)

pub held_among_none : (ss : List HeldSegment) (n : HeldSegment) → slice_get ss 0 ≡ None → held_among n ss ≡ n ∷ ss
held_among_none [] n h = refl
held_among_none (s ∷ rest) n h = cc

pub held_among_before : (ss : List HeldSegment) (n s : HeldSegment) → slice_get ss 0 ≡ Some s → n.at < s.at → held_among n ss ≡ n ∷ ss
held_among_before [] n s h lt = cc
held_among_before (t ∷ rest) n s h lt = grind (arith, common_steps)

-- a higher position is also behind them
pub EndsBy-mono : (top higher : ℕ) (ss : List HeldSegment) → top ≤ higher → EndsBy top ss → EndsBy higher ss
EndsBy-mono top higher [] le up = tt
EndsBy-mono top higher (s ∷ rest) le up = (omega (arith, le, up.0), EndsBy-mono top higher rest le up.1)
