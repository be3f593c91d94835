-- The lines of entries that were carried out.
use Rattle.std.proofs.Common.{◌≡◌, ◌||◌, ℕ, zero, suc, Bool, true, false, List, [], ◌∷◌, ◌++◌, map, refl, sym, ap, subst, ◌∙◌}
use Rattle.std.specs.Prelude.{Option, Some, fold, is_some, slice_get}
use Rattle.std.specs.List.{AllByRecursion, list_any}
use Rattle.ix_lines.specs.declared.types.EntryLine.{EntryLine}
use Rattle.ix_lines.specs.declared.types.EntryLine.TheVariants as lines
use Rattle.ix_lines.specs.declared.types.Fate.TheVariants as fates
use Rattle.ix_nic.specs.Cards.{CardView}
use Rattle.ix_order.specs.Wire.{Entry as WordEntry}
use Rattle.ix_wire.specs.declared.entry.Entry.{Entry}
use Rattle.ix_wire.specs.declared.entry.Entry.TheVariants as wire
use Rattle.ix_wire.specs.Entries.{EachAllowed}
use Rattle.ix_feed.specs.Feeding.{Calls, Feeds}
use Rattle.ix_feed.specs.Feeding as feeding
use Rattle.ix_feed.specs.Turns.{comes_before_the_end, ended_by}
use Rattle.ix_fits.specs.Card.{entry_of}
use Rattle.ix_fits.specs.Cutting.{is_settle}
use Rattle.ix_fits.specs.Wires.{AreSeen, IsSeen}
use Rattle.ix_settled.specs.Moments.{HasRecord}
use Rattle.ix_course.specs.Course.{AreLinesOf, IsLineOf}

-- ## One entry
line-of : (frames : List (List ℕ)) (w clock : ℕ) (e : Entry) (l : EntryLine) (old new : CardView) → Calls frames w clock e l old new → IsLineOf e l
line-of frames w clock (wire.Frame rec) l old new c = subst (λ x. IsLineOf (wire.Frame rec) x) (sym c.line_is) refl
line-of frames w clock (wire.Time t) l old new c = subst (λ x. IsLineOf (wire.Time t) x) (sym c.line_is) refl
line-of frames w clock (wire.Tag g) l old new c = subst (λ x. IsLineOf (wire.Tag g) x) (sym c.line_is) refl
line-of frames w clock (wire.Move g to) l old new c = subst (λ x. IsLineOf (wire.Move g to) x) (sym c.line_is) (refl, refl)
line-of frames w clock wire.Settle l old new c = subst (λ x. IsLineOf wire.Settle x) (sym c.line_is) tt

record-of : (frames : List (List ℕ)) (w clock : ℕ) (e : Entry) (l : EntryLine) (old new : CardView) → Calls frames w clock e l old new → HasRecord frames l
record-of frames w clock (wire.Frame rec) l old new c = subst (λ x. HasRecord frames x) (sym c.line_is) (λ a. ap (λ (o : Option (List ℕ)). is_some o) c.record_is)
record-of frames w clock (wire.Time t) l old new c = subst (λ x. HasRecord frames x) (sym c.line_is) tt
record-of frames w clock (wire.Tag g) l old new c = subst (λ x. HasRecord frames x) (sym c.line_is) tt
record-of frames w clock (wire.Move g to) l old new c = subst (λ x. HasRecord frames x) (sym c.line_is) tt
record-of frames w clock wire.Settle l old new c = subst (λ x. HasRecord frames x) (sym c.line_is) tt

-- ## Many entries
pub fed-lines : (frames : List (List ℕ)) (w clock : ℕ) (es : List Entry) (ls : List EntryLine) (x y : CardView) → Feeds frames w clock es ls x y → AreLinesOf es ls
fed-lines frames w clock [] [] x y f = tt
fed-lines frames w clock [] (l ∷ ls) x y f = absurd f
fed-lines frames w clock (e ∷ es) [] x y f = absurd f
fed-lines frames w clock (e ∷ es) (l ∷ ls) x y f = (line-of _ _ _ e l _ _ f.1.0.carried.call, fed-lines _ _ _ es ls _ _ f.1.1)

pub fed-records : (frames : List (List ℕ)) (w clock : ℕ) (es : List Entry) (ls : List EntryLine) (x y : CardView) → Feeds frames w clock es ls x y → AllByRecursion (HasRecord frames) ls
fed-records frames w clock [] [] x y f = tt
fed-records frames w clock [] (l ∷ ls) x y f = absurd f
fed-records frames w clock (e ∷ es) [] x y f = absurd f
fed-records frames w clock (e ∷ es) (l ∷ ls) x y f = (record-of _ _ _ e l _ _ f.1.0.carried.call, fed-records _ _ _ es ls _ _ f.1.1)

pub lines-append : (es fs : List Entry) (ls ms : List EntryLine) → AreLinesOf es ls → AreLinesOf fs ms → AreLinesOf (es ++ fs) (ls ++ ms)
lines-append [] fs [] ms a b = b
lines-append [] fs (l ∷ ls) ms a b = absurd a
lines-append (e ∷ es) fs [] ms a b = absurd a
lines-append (e ∷ es) fs (l ∷ ls) ms a b = (a.0, lines-append es fs ls ms a.1 b)

seen-of : (e : Entry) (l : EntryLine) → IsLineOf e l → IsSeen e (entry_of l)
seen-of (wire.Frame rec) (lines.Frame shown at group ring fate) h = tt
seen-of (wire.Time t) (lines.Time u) h = tt
seen-of (wire.Tag g) (lines.Tag k) h = ap (λ x. x.0) h
seen-of (wire.Move g to) (lines.Move k d) h = (ap (λ x. x.0) h.0, ap (λ x. x.0) h.1)
seen-of wire.Settle lines.Settle h = tt
seen-of (wire.Frame rec) (lines.Time u) h = absurd h
seen-of (wire.Frame rec) (lines.Tag k) h = absurd h
seen-of (wire.Frame rec) (lines.Move k d) h = absurd h
seen-of (wire.Frame rec) lines.Settle h = absurd h
seen-of (wire.Time t) (lines.Frame shown at group ring fate) h = absurd h
seen-of (wire.Time t) (lines.Tag k) h = absurd h
seen-of (wire.Time t) (lines.Move k d) h = absurd h
seen-of (wire.Time t) lines.Settle h = absurd h
seen-of (wire.Tag g) (lines.Frame shown at group ring fate) h = absurd h
seen-of (wire.Tag g) (lines.Time u) h = absurd h
seen-of (wire.Tag g) (lines.Move k d) h = absurd h
seen-of (wire.Tag g) lines.Settle h = absurd h
seen-of (wire.Move g to) (lines.Frame shown at group ring fate) h = absurd h
seen-of (wire.Move g to) (lines.Time u) h = absurd h
seen-of (wire.Move g to) (lines.Tag k) h = absurd h
seen-of (wire.Move g to) lines.Settle h = absurd h
seen-of wire.Settle (lines.Frame shown at group ring fate) h = absurd h
seen-of wire.Settle (lines.Time u) h = absurd h
seen-of wire.Settle (lines.Tag k) h = absurd h
seen-of wire.Settle (lines.Move k d) h = absurd h

pub are-seen : (es : List Entry) (ls : List EntryLine) → AreLinesOf es ls → AreSeen es (map entry_of ls)
are-seen [] [] h = tt
are-seen [] (l ∷ ls) h = absurd h
are-seen (e ∷ es) [] h = absurd h
are-seen (e ∷ es) (l ∷ ls) h = (seen-of e l h.0, are-seen es ls h.1)

time-line : (t : ℕ) (l : EntryLine) → IsLineOf (wire.Time t) l → l ≡ lines.Time t
time-line t (lines.Time u) h = ap lines.Time h
time-line t (lines.Frame shown at group ring fate) h = absurd h
time-line t (lines.Tag k) h = absurd h
time-line t (lines.Move k d) h = absurd h
time-line t lines.Settle h = absurd h

-- the line of a time, by its number
pub time-at : (es : List Entry) (ls : List EntryLine) (w t : ℕ) → AreLinesOf es ls → slice_get es w ≡ Some (wire.Time t) → slice_get ls w ≡ Some (lines.Time t)
time-at [] [] w t h e = absurd cc
time-at [] (l ∷ ls) w t h e = absurd h
time-at (x ∷ es) [] w t h e = absurd h
time-at (x ∷ es) (l ∷ ls) zero t h e =
    let is : x ≡ wire.Time t = cc in
    ap Some (time-line t l (subst (λ (y : Entry). IsLineOf y l) is h.0))
time-at (x ∷ es) (l ∷ ls) (suc w) t h e = time-at es ls w t h.1 e

-- the words of a line
word-of-line : (l : EntryLine) → feeding.entry_of l ≡ entry_of l
word-of-line (lines.Frame rec at group ring (fates.Buf b)) = refl
word-of-line (lines.Frame rec at group ring (fates.RingFull n)) = refl
word-of-line (lines.Frame rec at group ring (fates.NoBuffer n)) = refl
word-of-line (lines.Frame rec at group ring (fates.TooLong n)) = refl
word-of-line (lines.Time t) = refl
word-of-line (lines.Tag g) = refl
word-of-line (lines.Move g to) = refl
word-of-line lines.Settle = refl

pub words-of-lines : (ls : List EntryLine) → map feeding.entry_of ls ≡ map entry_of ls
words-of-lines [] = refl
words-of-lines (l ∷ ls) =
    ap (λ (e : WordEntry). e ∷ map feeding.entry_of ls) (word-of-line l) ∙ ap (λ (es : List WordEntry). entry_of l ∷ es) (words-of-lines ls)

-- ## The end of an epoch
-- some entries, none of which is a settle, and a settle
pub record EndsSo (ls : List EntryLine) : Type 0 where
  pub between : List EntryLine
  pub no_settle : list_any is_settle between ≡ false
  pub is : ls ≡ between ++ lines.Settle ∷ []

or-false : (a b : Bool) → a ≡ false → b ≡ false → (a || b) ≡ false
or-false false b p q = q
or-false true b p q = absurd cc

one-more : (l : EntryLine) (ls : List EntryLine) → is_settle l ≡ false → EndsSo ls → EndsSo (l ∷ ls)
one-more l ls none r = record { between = l ∷ r.between; no_settle = or-false (is_settle l) (list_any is_settle r.between) none r.no_settle; is = ap (λ (xs : List EntryLine). l ∷ xs) r.is }

frame-line : (rec : ℕ) (l : EntryLine) → IsLineOf (wire.Frame rec) l → is_settle l ≡ false
frame-line rec (lines.Frame shown at group ring fate) h = refl
frame-line rec (lines.Time u) h = absurd h
frame-line rec (lines.Tag k) h = absurd h
frame-line rec (lines.Move k d) h = absurd h
frame-line rec lines.Settle h = absurd h

tag-line : (g : _) (l : EntryLine) → IsLineOf (wire.Tag g) l → is_settle l ≡ false
tag-line g (lines.Tag k) h = refl
tag-line g (lines.Frame shown at group ring fate) h = absurd h
tag-line g (lines.Time u) h = absurd h
tag-line g (lines.Move k d) h = absurd h
tag-line g lines.Settle h = absurd h

move-line : (g to : _) (l : EntryLine) → IsLineOf (wire.Move g to) l → is_settle l ≡ false
move-line g to (lines.Move k d) h = refl
move-line g to (lines.Frame shown at group ring fate) h = absurd h
move-line g to (lines.Time u) h = absurd h
move-line g to (lines.Tag k) h = absurd h
move-line g to lines.Settle h = absurd h

settle-line : (l : EntryLine) → IsLineOf wire.Settle l → l ≡ lines.Settle
settle-line lines.Settle h = refl
settle-line (lines.Frame shown at group ring fate) h = absurd h
settle-line (lines.Time u) h = absurd h
settle-line (lines.Tag k) h = absurd h
settle-line (lines.Move g to) h = absurd h

none-behind : (es : List Entry) (ls : List EntryLine) → AreLinesOf es ls → EachAllowed comes_before_the_end ended_by true es → ls ≡ []
none-behind [] [] h a = refl
none-behind [] (l ∷ ls) h a = absurd h
none-behind (e ∷ es) [] h a = absurd h
none-behind (e ∷ es) (l ∷ ls) h a = absurd (let t = a.0 in cc)

pub epoch-ends : (es : List Entry) (ls : List EntryLine) → AreLinesOf es ls → EachAllowed comes_before_the_end ended_by false es → fold ended_by false es ≡ true → EndsSo ls
epoch-ends [] ls h a e = absurd cc
epoch-ends (x ∷ es) [] h a e = absurd h
epoch-ends (wire.Frame rec ∷ es) (l ∷ ls) h a e = one-more l ls (frame-line rec l h.0) (epoch-ends es ls h.1 a.1 e)
epoch-ends (wire.Time t ∷ es) (l ∷ ls) h a e = one-more l ls (ap is_settle (time-line t l h.0)) (epoch-ends es ls h.1 a.1 e)
epoch-ends (wire.Tag g ∷ es) (l ∷ ls) h a e = one-more l ls (tag-line g l h.0) (epoch-ends es ls h.1 a.1 e)
epoch-ends (wire.Move g to ∷ es) (l ∷ ls) h a e = one-more l ls (move-line g to l h.0) (epoch-ends es ls h.1 a.1 e)
epoch-ends (wire.Settle ∷ es) (l ∷ ls) h a e =
    record { between = []; no_settle = refl; is = ap (λ (x : EntryLine). x ∷ ls) (settle-line l h.0) ∙ ap (λ (xs : List EntryLine). lines.Settle ∷ xs) (none-behind es ls h.1 a.1) }
