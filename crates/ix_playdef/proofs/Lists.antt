-- The lists of what each group is given.
use Rattle.std.proofs.Common.{◌≡◌, ℕ, suc, ◌+◌, ◌<◌, ◌≤◌, refl, sym, ap, ◌∙◌, List, [], ◌∷◌, ◌++◌, length, get_or, take, arith, append_assoc, append-nil, inl, inr}
use Rattle.std.proofs.Math.ListN.{set}
use Rattle.std.specs.Prelude.{None, slice_get}
use Rattle.std.proofs.lemmas.Bool.{cases_eq}
use Rattle.std.proofs.lemmas.List.{get_or-set_same, get_or-set_other, get_or_default, take_more, length-take, length-map, length-set}
use Rattle.std.proofs.lemmas.Option.{slice_get_past}
use Rattle.ix_pcap.specs.declared.records.Span.{Span}
use Rattle.ix_pcap.specs.Capture.{frames_of}
use Rattle.ix_wire.specs.declared.entry.Entry.{Entry}
use Rattle.ix_wire.specs.declared.entry.Entry.TheVariants as entries
use Rattle.ix_playdef.specs.declared.wire.Given.{Given}
use Rattle.ix_playdef.specs.declared.wire.Given.TheVariants.{Time}
use Rattle.ix_playdef.specs.Wire.{given_frame, given_by, given_from, GetTime, GetEntry, AreGiven, AreEmpty}

-- ## A time
-- the lists before this place got it, and the others are as they were
pub record TimesUpTo (w t i : ℕ) (lists after : List (List Given)) : Type 0 where
  pub same : length after ≡ length lists
  pub done : (group : ℕ) (d : List Given) → group < i → get_or after group d ≡ get_or lists group d ++ Time (record { 0 = w }) t ∷ []
  pub left : (group : ℕ) (d : List Given) → i ≤ group → get_or after group d ≡ get_or lists group d

pub times-none : (w t : ℕ) (lists : List (List Given)) → TimesUpTo w t 0 lists lists
times-none w t lists = record { same = refl; done = λ group d lt. absurd (omega arith); left = λ group d le. refl }

pub times-more : (w t i : ℕ) (lists after : List (List Given)) (e y : List Given) → i < length after → TimesUpTo w t i lists after
    → e ≡ get_or after i e → y ≡ e ++ Time (record { 0 = w }) t ∷ [] → TimesUpTo w t (i + 1) lists (set after i y)
times-more w t i lists after e y lt upto read put =
    record {
      same = length-set after i y ∙ upto.same;
      done = λ group d less. elim (cases_eq group i) [
        | inl is ↦ rw is (get_or-set_same after i y d lt ∙ put ∙ ap (λ x. x ++ Time (record { 0 = w }) t ∷ []) (read ∙ get_or_default after i e d lt ∙ upto.left i d (omega arith)))
        | inr other ↦ get_or-set_other after i group y d other ∙ upto.done group d (omega arith)
      ];
      left = λ group d le. get_or-set_other after i group y d (λ is. omega arith) ∙ upto.left group d (omega arith);
    }

pub times-all : (w t i : ℕ) (lists after : List (List Given)) → length lists ≤ i → TimesUpTo w t i lists after → GetTime w t lists after
times-all w t i lists after le upto = record { each = λ group d lt. upto.done group d (omega arith) }

pub ruleset for_time = (times-none, times-more, times-all)

-- ## An entry
-- a record that is not there
pub nothing-given : (bytes : List ℕ) (spans : List Span) (w rec : ℕ) (entry : Entry) (lists : List (List Given)) → entry ≡ entries.Frame rec → length spans ≤ rec
    → GetEntry (frames_of bytes spans) w entry lists lists
nothing-given bytes spans w rec entry lists e le =
    let none : slice_get (frames_of bytes spans) rec ≡ None = slice_get_past (frames_of bytes spans) rec (rw length-map le) in
    record {
      each = λ group d lt.
          sym (ap (λ x. get_or lists group d ++ given_by (frames_of bytes spans) group w x) e
          ∙ ap (λ o. get_or lists group d ++ given_frame group w o) none
          ∙ append-nil (get_or lists group d));
    }

pub ruleset for_entry = (nothing-given)

-- ## All entries
given-push : (frames : List (List ℕ)) (group w : ℕ) (es : List Entry) (e : Entry) → given_from frames group w (es ++ e ∷ []) ≡ given_from frames group w es ++ given_by frames group (w + length es) e
given-push frames group w [] e = ap (λ n. given_by frames group n e ++ []) (let same : w ≡ w + 0 = omega arith in same) ∙ append-nil (given_by frames group (w + 0) e)
given-push frames group w (x ∷ es) e =
    ap (λ gs. given_by frames group w x ++ gs) (given-push frames group (w + 1) es e)
    ∙ sym (append_assoc (given_by frames group w x) (given_from frames group (w + 1) es) (given_by frames group ((w + 1) + length es) e))
    ∙ ap (λ n. (given_by frames group w x ++ given_from frames group (w + 1) es) ++ given_by frames group n e) (let same : (w + 1) + length es ≡ w + suc (length es) = omega arith in same)

pub are-none : (frames : List (List ℕ)) (es : List Entry) (lists : List (List Given)) → AreEmpty lists → AreGiven frames (take 0 es) lists
are-none frames es lists empty = record { each = λ group d lt. empty.each group d lt }

pub are-more : (frames : List (List ℕ)) (es : List Entry) (i : ℕ) (d : Entry) (lists after : List (List Given)) → i < length es → length after ≡ length lists
    → AreGiven frames (take i es) lists → GetEntry frames i (get_or es i d) lists after → AreGiven frames (take (i + 1) es) after
are-more frames es i d lists after lt same before got =
    let long : length (take i es) ≡ i = grind (arith, length-take) in
    record {
      each = λ group e less.
          got.each group e (omega arith)
          ∙ ap (λ gs. gs ++ given_by frames group i (get_or es i d)) (before.each group e (omega arith))
          ∙ ap (λ n. given_from frames group 0 (take i es) ++ given_by frames group n (get_or es i d)) (let at : i ≡ 0 + length (take i es) = omega (arith, long) in at)
          ∙ sym (given-push frames group 0 (take i es) (get_or es i d))
          ∙ ap (given_from frames group 0) (sym (take_more es i d lt));
    }

pub ruleset for_entries = (are-none, are-more)
