-- The finite map that callers see, after each change of the standings.
use Rattle.std.proofs.Common.{◌≡◌, ◌==◌, ℕ, not, List, filter, Option, Some, None, if◌then◌else◌, refl, ap, sym, ◌∙◌, inl, inr}
use Rattle.std.specs.Option.{option_map}
use Rattle.std.proofs.lemmas.Bool.{eq-eqb, ne_eqb, cases_eq}
use Rattle.ix_time.specs.declared.standings.Standing.{Standing}
use Rattle.ix_time.specs.Entries.{tick_of, put, without, is_later, later_tick}
use Rattle.ix_time.specs.Standings.{standing_of, tick_in, in_order}
use Rattle.ix_time.proofs.MapLemmas.{tick_of-put, tick_of-without, tick_of-later}
use Rattle.ix_time.proofs.EntryLemmas.{IsRising-in_order, IsRising-put, IsRising-filter, tick_of-in_order, rising-same}

pub record SetTo (key tick : ℕ) (old new : List (ℕ × Standing)) : Type 0 where
  pub ticks : (q : ℕ) → tick_in q new ≡ (if q == key then Some tick else tick_in q old)

pub record Cleared (key : ℕ) (old new : List (ℕ × Standing)) : Type 0 where
  pub ticks : (q : ℕ) → tick_in q new ≡ (if q == key then None else tick_in q old)

pub record LeftLater (now : ℕ) (old new : List (ℕ × Standing)) : Type 0 where
  pub ticks : (q : ℕ) → tick_in q new ≡ later_tick now (tick_in q old)

pub set-ticks : (key tick q : ℕ) (old new : List (ℕ × Standing)) → SetTo key tick old new
    → tick_of q (in_order new) ≡ (if q == key then Some tick else tick_of q (in_order old))
set-ticks key tick q old new changed =
    tick_of-in_order q new ∙ changed.ticks q ∙ sym (ap (λ (o : Option ℕ). if q == key then Some tick else o) (tick_of-in_order q old))

pub set-map : (key tick : ℕ) (old new : List (ℕ × Standing)) → SetTo key tick old new → in_order new ≡ put key tick (in_order old)
set-map key tick old new changed =
    rising-same (in_order new) (put key tick (in_order old)) (IsRising-in_order new) (IsRising-put key tick (in_order old) (IsRising-in_order old))
    (λ q. set-ticks key tick q old new changed ∙ sym (tick_of-put q key tick (in_order old)))

pub cleared-ticks : (key q : ℕ) (old new : List (ℕ × Standing)) → Cleared key old new
    → tick_of q (in_order new) ≡ (if q == key then None else tick_of q (in_order old))
cleared-ticks key q old new changed =
    tick_of-in_order q new ∙ changed.ticks q ∙ sym (ap (λ (o : Option ℕ). if q == key then None else o) (tick_of-in_order q old))

pub cleared-map : (key : ℕ) (old new : List (ℕ × Standing)) → Cleared key old new → in_order new ≡ without key (in_order old)
cleared-map key old new changed =
    rising-same (in_order new) (without key (in_order old)) (IsRising-in_order new)
    (IsRising-filter (λ e. not (e.0 == key)) (in_order old) (IsRising-in_order old))
    (λ q. cleared-ticks key q old new changed ∙ sym (tick_of-without q key (in_order old)))

pub later-ticks : (now q : ℕ) (old new : List (ℕ × Standing)) → LeftLater now old new → tick_of q (in_order new) ≡ later_tick now (tick_of q (in_order old))
later-ticks now q old new changed = tick_of-in_order q new ∙ changed.ticks q ∙ sym (ap (later_tick now) (tick_of-in_order q old))

pub later-map : (now : ℕ) (old new : List (ℕ × Standing)) → LeftLater now old new → in_order new ≡ filter (is_later now) (in_order old)
later-map now old new changed =
    rising-same (in_order new) (filter (is_later now) (in_order old)) (IsRising-in_order new) (IsRising-filter (is_later now) (in_order old) (IsRising-in_order old))
    (λ q. later-ticks now q old new changed ∙ sym (tick_of-later now q (in_order old) (IsRising-in_order old)))

-- from what the calls say of standings
pub set-from : (key : ℕ) (s : Standing) (old new : List (ℕ × Standing)) → ((q : ℕ) → standing_of q new ≡ (if key == q then Some s else standing_of q old))
    → SetTo key s.tick old new
set-from key s old new changed =
    record {
      ticks = λ q.
          let tick : Option Standing → Option ℕ = λ o. option_map (λ (t : Standing). t.tick) o in
          elim (cases_eq key q) [
            | inl same ↦ (
                let its : standing_of q new ≡ Some s = rw (changed q, eq-eqb key q same) refl in
                ap tick its ∙ sym (rw (eq-eqb q key (sym same)) refl))
            | inr apart ↦ (
                let its : standing_of q new ≡ standing_of q old = rw (changed q, ne_eqb key q apart) refl in
                ap tick its ∙ sym (rw (ne_eqb q key (λ e. apart (sym e))) refl))
          ];
    }

pub cleared-from : (key : ℕ) (old new : List (ℕ × Standing)) → ((q : ℕ) → standing_of q new ≡ (if key == q then None else standing_of q old))
    → Cleared key old new
cleared-from key old new changed =
    record {
      ticks = λ q.
          let tick : Option Standing → Option ℕ = λ o. option_map (λ (t : Standing). t.tick) o in
          elim (cases_eq key q) [
            | inl same ↦ (
                let its : standing_of q new ≡ None = rw (changed q, eq-eqb key q same) refl in
                ap tick its ∙ sym (rw (eq-eqb q key (sym same)) refl))
            | inr apart ↦ (
                let its : standing_of q new ≡ standing_of q old = rw (changed q, ne_eqb key q apart) refl in
                ap tick its ∙ sym (rw (ne_eqb q key (λ e. apart (sym e))) refl))
          ];
    }

-- and further where a call leaves each key's tick
pub set-then : (key tick : ℕ) (old mid new : List (ℕ × Standing)) → SetTo key tick old mid → ((q : ℕ) → tick_in q new ≡ tick_in q mid) → SetTo key tick old new
set-then key tick old mid new changed same = record { ticks = λ q. same q ∙ changed.ticks q }

pub cleared-then : (key : ℕ) (old mid new : List (ℕ × Standing)) → Cleared key old mid → ((q : ℕ) → tick_in q new ≡ tick_in q mid) → Cleared key old new
cleared-then key old mid new changed same = record { ticks = λ q. same q ∙ changed.ticks q }
