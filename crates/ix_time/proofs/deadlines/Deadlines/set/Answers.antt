use Rattle.std.proofs.Common.{◌≡◌, ◌∙◌, ◌++◌, ◌∷◌, ℕ, ◌-◌, [], length, take, slice_set, Some, refl, sym, ap, inl, arith}
use Rattle.ix_time.specs.Places.{place_of}
use Rattle.ix_time.specs.Standings.{standing_of}
use Rattle.ix_time.specs.Wheel.{KeepsPlaces, IsLoose}
use Rattle.ix_time.proofs.WheelLemmas.{set-new, set-old, undone, kept-same, slot, placed, standing, length-slice_set}
use Rattle.ix_time.proofs.ViewLemmas.{set-from, set-then, set-map, set-ticks}
use Rattle.ix_time.proofs.deadlines.Deadlines.set.Goals as goal

pub invariant_of-self-in_err-index : goal.invariant_of-self-in_err-index
invariant_of-self-in_err-index c =
    let kept : KeepsPlaces c.self.inside.clock c.self.inside.standings c.make_places.new.places.items =
    kept-same c.self.inside.clock c.self.inside.standings c.self.inside.standings c.self.inside.places.items c.make_places.new.places.items c.self.invariant
    (λ q. refl) c.make_places.ensures.same (inl c.in_ok-make_places.ensures.len) in
    rw c.in_err-index.ensures.err kept

pub invariant_of-self-in-Ok-None : goal.invariant_of-self-in-Ok-None
invariant_of-self-in-Ok-None c =
    let kept : KeepsPlaces c.self.inside.clock c.self.inside.standings c.make_places.new.places.items =
    kept-same c.self.inside.clock c.self.inside.standings c.self.inside.standings c.self.inside.places.items c.make_places.new.places.items c.self.invariant
    (λ q. refl) c.make_places.ensures.same (inl c.in_ok-make_places.ensures.len) in
    let at-end : c.in_ok-index.index ≡ length (slot c.make_places.new.places.items (place_of c.self.inside.clock c.args.at)) =
    c.in_ok-index.ensures.index ∙ ap (λ (p : ℕ). length (slot c.make_places.new.places.items p)) c.place_of-place.ensures.place in
    let put : c.put_at.new.places.items ≡ slice_set c.make_places.new.places.items (place_of c.self.inside.clock c.args.at)
    (slot c.make_places.new.places.items (place_of c.self.inside.clock c.args.at) ++ (c.args.key, c.args.at) ∷ []) =
    rw (← c.place_of-place.ensures.place) c.in_ok-index.ensures.ok in
    let changed : (q : ℕ) → standing_of q c.insert.new.self ≡ placed c.args.key
    (standing c.args.at (length (slot c.make_places.new.places.items (place_of c.self.inside.clock c.args.at)))) q c.self.inside.standings =
    rw (← at-end) c.in-Ok-None.ensures.ok in
    set-new c.self.inside.clock c.self.inside.standings c.insert.new.self c.make_places.new.places.items c.put_at.new.places.items c.args.key c.args.at kept
    c.in_ok-make_places.ensures.len put (sym c.in-Ok-None.ensures.before ∙ c.in-Ok-None.field-0-is) changed

pub take_out-requires-clause-index : goal.take_out-requires-clause-index
take_out-requires-clause-index c =
    let kept : KeepsPlaces c.self.inside.clock c.self.inside.standings c.make_places.new.places.items =
    kept-same c.self.inside.clock c.self.inside.standings c.self.inside.standings c.self.inside.places.items c.make_places.new.places.items c.self.invariant
    (λ q. refl) c.make_places.ensures.same (inl c.in_ok-make_places.ensures.len) in
    let at-end : c.in_ok-index.index ≡ length (slot c.make_places.new.places.items (place_of c.self.inside.clock c.args.at)) =
    c.in_ok-index.ensures.index ∙ ap (λ (p : ℕ). length (slot c.make_places.new.places.items p)) c.place_of-place.ensures.place in
    let put : c.put_at.new.places.items ≡ slice_set c.make_places.new.places.items (place_of c.self.inside.clock c.args.at)
    (slot c.make_places.new.places.items (place_of c.self.inside.clock c.args.at) ++ (c.args.key, c.args.at) ∷ []) =
    rw (← c.place_of-place.ensures.place) c.in_ok-index.ensures.ok in
    let changed : (q : ℕ) → standing_of q c.insert.new.self ≡ placed c.args.key
    (standing c.args.at (length (slot c.make_places.new.places.items (place_of c.self.inside.clock c.args.at)))) q c.self.inside.standings =
    rw (← at-end) c.in-Ok-Some.ensures.ok in
    let found : standing_of c.args.key c.self.inside.standings ≡ Some c.in-Ok-Some.old = sym c.in-Ok-Some.ensures.before ∙ c.in-Ok-Some.field-0-is in
    let loose : IsLoose c.self.inside.clock c.insert.new.self c.put_at.new.places.items (place_of c.self.inside.clock c.in-Ok-Some.old.tick) c.in-Ok-Some.old.index =
    set-old c.self.inside.clock c.self.inside.standings c.insert.new.self c.make_places.new.places.items c.put_at.new.places.items c.args.key c.args.at
    c.in-Ok-Some.old kept c.in_ok-make_places.ensures.len put found changed in
    rw c.place_of-old_place.ensures.place loose.there

pub invariant_of-self-in-Ok-Some : goal.invariant_of-self-in-Ok-Some
invariant_of-self-in-Ok-Some c =
    let kept : KeepsPlaces c.self.inside.clock c.self.inside.standings c.make_places.new.places.items =
    kept-same c.self.inside.clock c.self.inside.standings c.self.inside.standings c.self.inside.places.items c.make_places.new.places.items c.self.invariant
    (λ q. refl) c.make_places.ensures.same (inl c.in_ok-make_places.ensures.len) in
    let at-end : c.in_ok-index.index ≡ length (slot c.make_places.new.places.items (place_of c.self.inside.clock c.args.at)) =
    c.in_ok-index.ensures.index ∙ ap (λ (p : ℕ). length (slot c.make_places.new.places.items p)) c.place_of-place.ensures.place in
    let put : c.put_at.new.places.items ≡ slice_set c.make_places.new.places.items (place_of c.self.inside.clock c.args.at)
    (slot c.make_places.new.places.items (place_of c.self.inside.clock c.args.at) ++ (c.args.key, c.args.at) ∷ []) =
    rw (← c.place_of-place.ensures.place) c.in_ok-index.ensures.ok in
    let changed : (q : ℕ) → standing_of q c.insert.new.self ≡ placed c.args.key
    (standing c.args.at (length (slot c.make_places.new.places.items (place_of c.self.inside.clock c.args.at)))) q c.self.inside.standings =
    rw (← at-end) c.in-Ok-Some.ensures.ok in
    let found : standing_of c.args.key c.self.inside.standings ≡ Some c.in-Ok-Some.old = sym c.in-Ok-Some.ensures.before ∙ c.in-Ok-Some.field-0-is in
    let loose : IsLoose c.self.inside.clock c.insert.new.self c.put_at.new.places.items (place_of c.self.inside.clock c.in-Ok-Some.old.tick) c.in-Ok-Some.old.index =
    set-old c.self.inside.clock c.self.inside.standings c.insert.new.self c.make_places.new.places.items c.put_at.new.places.items c.args.key c.args.at
    c.in-Ok-Some.old kept c.in_ok-make_places.ensures.len put found changed in
    c.take_out.ensures.kept c.self.inside.clock (rw c.place_of-old_place.ensures.place loose)

pub invariant_of-self-in-Err : goal.invariant_of-self-in-Err
invariant_of-self-in-Err c =
    let kept : KeepsPlaces c.self.inside.clock c.self.inside.standings c.make_places.new.places.items =
    kept-same c.self.inside.clock c.self.inside.standings c.self.inside.standings c.self.inside.places.items c.make_places.new.places.items c.self.invariant
    (λ q. refl) c.make_places.ensures.same (inl c.in_ok-make_places.ensures.len) in
    let reads : (p : ℕ) → slot c.take_last.new.places.items p ≡ slot c.make_places.new.places.items p =
    undone c.make_places.new.places.items c.put_at.new.places.items c.take_last.new.places.items c.place_of-place.result c.args.key c.args.at (omega (arith, c.in_ok-make_places.ensures.len, c.place_of-place.ensures.within)) c.in_ok-index.ensures.ok c.take_last.ensures in
    kept-same c.self.inside.clock c.self.inside.standings c.insert.new.self c.make_places.new.places.items c.take_last.new.places.items kept
    (λ q. ap (λ s. standing_of q s) c.in-Err.ensures.err) reads
    (inl (ap length c.take_last.ensures
    ∙ length-slice_set c.put_at.new.places.items c.place_of-place.result (take (length (slot c.put_at.new.places.items c.place_of-place.result) - 1) (slot c.put_at.new.places.items c.place_of-place.result))
    ∙ ap length c.in_ok-index.ensures.ok
    ∙ length-slice_set c.make_places.new.places.items c.place_of-place.result (slot c.make_places.new.places.items c.place_of-place.result ++ (c.args.key, c.args.at) ∷ [])
    ∙ c.in_ok-make_places.ensures.len))

pub returns-in-Ok-None-clause-ok : goal.returns-in-Ok-None-clause-ok
returns-in-Ok-None-clause-ok c =
    rw (← c.self.view_is)
    (set-map c.args.key c.args.at c.self.inside.standings c.insert.new.self
    (set-from c.args.key (standing c.args.at c.in_ok-index.index) c.self.inside.standings c.insert.new.self c.in-Ok-None.ensures.ok))

pub returns-in-Ok-None-clause-ticks : goal.returns-in-Ok-None-clause-ticks
returns-in-Ok-None-clause-ticks c =
    rw (← c.self.view_is)
    (λ q.
    set-ticks c.args.key c.args.at q c.self.inside.standings c.insert.new.self
    (set-from c.args.key (standing c.args.at c.in_ok-index.index) c.self.inside.standings c.insert.new.self c.in-Ok-None.ensures.ok))

pub returns-in-Ok-Some-clause-ok : goal.returns-in-Ok-Some-clause-ok
returns-in-Ok-Some-clause-ok c =
    let kept : KeepsPlaces c.self.inside.clock c.self.inside.standings c.make_places.new.places.items =
    kept-same c.self.inside.clock c.self.inside.standings c.self.inside.standings c.self.inside.places.items c.make_places.new.places.items c.self.invariant
    (λ q. refl) c.make_places.ensures.same (inl c.in_ok-make_places.ensures.len) in
    let at-end : c.in_ok-index.index ≡ length (slot c.make_places.new.places.items (place_of c.self.inside.clock c.args.at)) =
    c.in_ok-index.ensures.index ∙ ap (λ (p : ℕ). length (slot c.make_places.new.places.items p)) c.place_of-place.ensures.place in
    let put : c.put_at.new.places.items ≡ slice_set c.make_places.new.places.items (place_of c.self.inside.clock c.args.at)
    (slot c.make_places.new.places.items (place_of c.self.inside.clock c.args.at) ++ (c.args.key, c.args.at) ∷ []) =
    rw (← c.place_of-place.ensures.place) c.in_ok-index.ensures.ok in
    let changed : (q : ℕ) → standing_of q c.insert.new.self ≡ placed c.args.key
    (standing c.args.at (length (slot c.make_places.new.places.items (place_of c.self.inside.clock c.args.at)))) q c.self.inside.standings =
    rw (← at-end) c.in-Ok-Some.ensures.ok in
    let found : standing_of c.args.key c.self.inside.standings ≡ Some c.in-Ok-Some.old = sym c.in-Ok-Some.ensures.before ∙ c.in-Ok-Some.field-0-is in
    let loose : IsLoose c.self.inside.clock c.insert.new.self c.put_at.new.places.items (place_of c.self.inside.clock c.in-Ok-Some.old.tick) c.in-Ok-Some.old.index =
    set-old c.self.inside.clock c.self.inside.standings c.insert.new.self c.make_places.new.places.items c.put_at.new.places.items c.args.key c.args.at
    c.in-Ok-Some.old kept c.in_ok-make_places.ensures.len put found changed in
    let same = c.take_out.ensures.ticks c.self.inside.clock (rw c.place_of-old_place.ensures.place loose) in
    let first = set-from c.args.key (standing c.args.at c.in_ok-index.index) c.self.inside.standings c.insert.new.self c.in-Ok-Some.ensures.ok in
    let all = set-then c.args.key c.args.at c.self.inside.standings c.insert.new.self c.take_out.new.standings first same in
    rw (← c.self.view_is) (set-map c.args.key c.args.at c.self.inside.standings c.take_out.new.standings all)

pub returns-in-Ok-Some-clause-ticks : goal.returns-in-Ok-Some-clause-ticks
returns-in-Ok-Some-clause-ticks c =
    let kept : KeepsPlaces c.self.inside.clock c.self.inside.standings c.make_places.new.places.items =
    kept-same c.self.inside.clock c.self.inside.standings c.self.inside.standings c.self.inside.places.items c.make_places.new.places.items c.self.invariant
    (λ q. refl) c.make_places.ensures.same (inl c.in_ok-make_places.ensures.len) in
    let at-end : c.in_ok-index.index ≡ length (slot c.make_places.new.places.items (place_of c.self.inside.clock c.args.at)) =
    c.in_ok-index.ensures.index ∙ ap (λ (p : ℕ). length (slot c.make_places.new.places.items p)) c.place_of-place.ensures.place in
    let put : c.put_at.new.places.items ≡ slice_set c.make_places.new.places.items (place_of c.self.inside.clock c.args.at)
    (slot c.make_places.new.places.items (place_of c.self.inside.clock c.args.at) ++ (c.args.key, c.args.at) ∷ []) =
    rw (← c.place_of-place.ensures.place) c.in_ok-index.ensures.ok in
    let changed : (q : ℕ) → standing_of q c.insert.new.self ≡ placed c.args.key
    (standing c.args.at (length (slot c.make_places.new.places.items (place_of c.self.inside.clock c.args.at)))) q c.self.inside.standings =
    rw (← at-end) c.in-Ok-Some.ensures.ok in
    let found : standing_of c.args.key c.self.inside.standings ≡ Some c.in-Ok-Some.old = sym c.in-Ok-Some.ensures.before ∙ c.in-Ok-Some.field-0-is in
    let loose : IsLoose c.self.inside.clock c.insert.new.self c.put_at.new.places.items (place_of c.self.inside.clock c.in-Ok-Some.old.tick) c.in-Ok-Some.old.index =
    set-old c.self.inside.clock c.self.inside.standings c.insert.new.self c.make_places.new.places.items c.put_at.new.places.items c.args.key c.args.at
    c.in-Ok-Some.old kept c.in_ok-make_places.ensures.len put found changed in
    let same = c.take_out.ensures.ticks c.self.inside.clock (rw c.place_of-old_place.ensures.place loose) in
    let first = set-from c.args.key (standing c.args.at c.in_ok-index.index) c.self.inside.standings c.insert.new.self c.in-Ok-Some.ensures.ok in
    let all = set-then c.args.key c.args.at c.self.inside.standings c.insert.new.self c.take_out.new.standings first same in
    rw (← c.self.view_is) (λ q. set-ticks c.args.key c.args.at q c.self.inside.standings c.take_out.new.standings all)
