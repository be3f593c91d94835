-- From tests to rest.
use Rattle.std.proofs.Common.{◌≡◌, ◌++◌, Bool, true, false, List, [], ◌∷◌, length, map, get_or, refl, sym, ap, ◌∙◌, arith}
use Rattle.std.specs.Prelude.{◌&&◌, nat_lt, not}
use Rattle.std.specs.List.{list_any}
use Rattle.ix_mbuf.specs.Buffers.{Buffer}
use Rattle.ix_ring.specs.Ends.{known}
use Rattle.ix_desk.specs.declared.unit.Shipment.{Shipment}
use Rattle.ix_history.specs.Events.{Parcel}
use Rattle.ix_run.specs.declared.actors.Turn.{Turn}
use Rattle.ix_run.specs.declared.actors.Turn.TheVariants.{Ended, Idle, Worked}
use Rattle.ix_stack.specs.declared.work.Work.{Work}
use Rattle.ix_core.specs.declared.turning.Core.{Core}
use Rattle.ix_core.specs.Cores.{LeavesNothing}
use Rattle.ix_core.specs.Landing.{parcel_of}
use Rattle.ix_core.specs.Turned.{AreDrained, WasIdle}
use Rattle.ix_epochs.specs.Rest.{CoreRests, KeepsNothing, is_idle, NothingComes, NothingIsOnRings, keeps_aside, link_has, link_keeps, ring_has, rings_have}
use Rattle.ix_epochs.proofs.Places.{either_left, either_right, is_empty, none_at}

pub both_so : (a b : Bool) → (a && b) ≡ true → (a ≡ true) × (b ≡ true)
both_so true true e = (refl, refl)
both_so true false e = absurd (cc)
both_so false b e = absurd (cc)

pub was_idle : (turn : Turn) → is_idle turn ≡ true → turn ≡ Idle
was_idle (Ended frames) e = absurd (cc)
was_idle Idle e = refl
was_idle (Worked frames) e = absurd (cc)

pub not_so : (b : Bool) → not b ≡ true → b ≡ false
not_so true e = absurd (cc)
not_so false e = refl

module _ {U E : Type 0} where
  pub nothing_comes : (c : Core U E) → ring_has c ≡ false → NothingComes c
  nothing_comes c e = record {
    items = is_empty (known c.items) (either_left (nat_lt 0 (length (known c.items))) (list_any link_has c.links.items) e);
    links = λ p d lt. is_empty (known (get_or c.links.items p d).take) (none_at link_has c.links.items p d (either_right (nat_lt 0 (length (known c.items))) (list_any link_has c.links.items) e) lt);
  }

  pub nothing_on_rings : (cores : List (Core U E)) → rings_have cores ≡ false → NothingIsOnRings cores
  nothing_on_rings cores e c d lt = nothing_comes (get_or cores c d) (none_at ring_has cores c d e lt)

  -- a core that was idle in its last turn, and keeps nothing aside
  pub keeps_nothing : (old new : Core U E) → length new.links.items ≡ length old.links.items → WasIdle old new → keeps_aside new ≡ false → KeepsNothing new
  keeps_nothing old new count idle e =
      let rest = either_right (nat_lt 0 (length new.came.items)) _ e in
      record {
        came = is_empty new.came.items (either_left (nat_lt 0 (length new.came.items)) _ e);
        lost = is_empty new.lost.items (either_left (nat_lt 0 (length new.lost.items)) (list_any link_keeps new.links.items) rest);
        links = λ p d lt. record {
          ships = is_empty (get_or new.links.items p d).ships.items (none_at link_keeps new.links.items p d (either_right (nat_lt 0 (length new.lost.items)) (list_any link_keeps new.links.items) rest) lt);
          waits = (idle.links p d (omega (arith, count, lt))).waits;
        };
      }

  -- no flow group was lost in turns behind which none is
  none_lost : (before after : List (Shipment U Work E)) (more : List (Parcel U Work)) → map parcel_of after ≡ map parcel_of before ++ more → after ≡ [] → before ≡ []
  none_lost [] after more so none = refl
  none_lost (s ∷ before) after more so none = absurd (let e : parcel_of s ∷ (map parcel_of before ++ more) ≡ [] = sym so ∙ ap (map parcel_of) none in cc)

  pub lost_same : (old new : Core U E) (more : List (Parcel U Work)) → map parcel_of new.lost.items ≡ map parcel_of old.lost.items ++ more → keeps_aside new ≡ false → new.lost.items ≡ old.lost.items
  lost_same old new more so e =
      let none : new.lost.items ≡ [] = is_empty new.lost.items (either_left (nat_lt 0 (length new.lost.items)) (list_any link_keeps new.links.items) (either_right (nat_lt 0 (length new.came.items)) _ e)) in
      none ∙ sym (none_lost old.lost.items new.lost.items more so none)

  pub core_rests : (drained : U → List Buffer → U → Type 0) (old new : Core U E) (more : List (Parcel U Work)) → new.failed ≡ false → length new.links.items ≡ length old.links.items
      → map parcel_of new.lost.items ≡ map parcel_of old.lost.items ++ more → LeavesNothing new → WasIdle old new
      → (new.lost.items ≡ old.lost.items → AreDrained drained new.desks) → keeps_aside new ≡ false → CoreRests drained new
  core_rests drained old new more found count lost leaves idle clean e = record {
    found = found;
    idle = idle.desks;
    clean = clean (lost_same old new more lost e);
    keeps = keeps_nothing old new count idle e;
    aside = leaves.aside;
  }
