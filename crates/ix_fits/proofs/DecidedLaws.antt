-- What a plain program decides.
use Rattle.std.proofs.Common.{◌≡◌, ℕ, refl, true, false, List, [], ◌∷◌, length, drop, arith}
use Rattle.std.specs.Prelude.{◌&&◌, ◌==◌, count_by}
use Rattle.std.specs.List.{list_all}
use Rattle.std.proofs.lemmas.Bool.{and_from, and_parts, eqb-true}
use Rattle.std.proofs.lemmas.Bool.Decides.{nat_tests}
use Rattle.ix_conf.specs.Settings.{Settings}
use Rattle.ix_lines.specs.declared.types.EntryLine.{EntryLine}
use Rattle.ix_lines.specs.declared.types.SettleLine.{SettleLine}
use Rattle.ix_wire.specs.declared.entry.Entry.{Entry}
use Rattle.ix_fits.specs.declared.entries.Place.{Place}
use Rattle.ix_fits.specs.Behind.{behind_at, card_of, rings_of}
use Rattle.ix_fits.specs.Card.{are_closed, fit_all, fit_entries, fit_rings, is_dropped, is_head, is_whole}
use Rattle.ix_fits.specs.Decided.{CardIsDecided}
use Rattle.ix_fits.specs.Fits.{CardFits, card_fits}

same-test : (a b : ℕ) → a ≡ b → (a == b) ≡ true
same-test a b e = grind (arith, nat_tests)

pub card_is_decided : CardIsDecided
card_is_decided s frames entries r = (holds, only)
  where
    holds : card_fits s frames entries r ≡ true → CardFits s frames entries r
    holds e =
        let all = and_parts ((is_head s r.head && fit_all s frames entries r.entries r.settles) && (list_all (is_whole s.cores s.buffers) r.settles && are_closed s r.closed)) (r.drops == count_by is_dropped r.entries) e in
        let four = and_parts (is_head s r.head && fit_all s frames entries r.entries r.settles) (list_all (is_whole s.cores s.buffers) r.settles && are_closed s r.closed) all.0 in
        let first = and_parts (is_head s r.head) (fit_all s frames entries r.entries r.settles) four.0 in
        let second = and_parts (list_all (is_whole s.cores s.buffers) r.settles) (are_closed s r.closed) four.1 in
        record { head = first.0; entries_are = first.1; settles = second.0; closed = second.1; drops = eqb-true r.drops (count_by is_dropped r.entries) all.1 }

    only : CardFits s frames entries r → card_fits s frames entries r ≡ true
    only p =
        and_from ((is_head s r.head && fit_all s frames entries r.entries r.settles) && (list_all (is_whole s.cores s.buffers) r.settles && are_closed s r.closed)) (r.drops == count_by is_dropped r.entries)
        (and_from (is_head s r.head && fit_all s frames entries r.entries r.settles) (list_all (is_whole s.cores s.buffers) r.settles && are_closed s r.closed)
        (and_from (is_head s r.head) (fit_all s frames entries r.entries r.settles) p.head p.entries_are)
        (and_from (list_all (is_whole s.cores s.buffers) r.settles) (are_closed s r.closed) p.settles p.closed))
        (same-test r.drops (count_by is_dropped r.entries) p.drops)

-- ## From the settle before the first entry
abbrev pub first_place : Place
first_place = record { from = 0; settle = 0 }

pub all-none : (s : Settings) (frames : List (List ℕ)) (xs : List Entry) (ys : List EntryLine) (ls : List SettleLine) → length ls ≡ 0 → fit_all s frames xs ys ls ≡ false
all-none s frames xs ys [] e = refl
all-none s frames xs ys (l ∷ ls) e = absurd (omega (arith, e))

pub all-some : (s : Settings) (frames : List (List ℕ)) (xs : List Entry) (ys : List EntryLine) (ls : List SettleLine) → (length ls ≡ 0 → ⊥)
    → fit_all s frames xs ys ls ≡ (fit_rings (card_of (behind_at s.live ys ls 0 first_place)) (rings_of ls 0) && fit_entries s frames (card_of (behind_at s.live ys ls 0 first_place)) 0 xs ys (drop 1 ls))
unfolding card_of
all-some s frames xs ys [] some = absurd (some refl)
all-some s frames xs ys (l ∷ ls) some = refl

pub ruleset for_all = (all-none, all-some)
