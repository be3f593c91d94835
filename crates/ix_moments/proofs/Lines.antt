-- The lines of settles and of entries.
use Rattle.std.proofs.Common.{◌≡◌, ◌<◌, ℕ, Bool, true, List, [], ◌∷◌, ◌++◌, length, map, get_or, ap, ◌∙◌, refl}
use Rattle.std.specs.Prelude.{◌&&◌}
use Rattle.std.specs.List.{AllByRecursion, list_all}
use Rattle.std.proofs.lemmas.List.{get_or-map, length-map}
use Rattle.std.proofs.lemmas.List.Folds.{list_all-append}
use Rattle.ix_lines.specs.declared.types.EntryLine.{EntryLine}
use Rattle.ix_lines.specs.declared.types.EntryLine.TheVariants as lines
use Rattle.ix_lines.specs.declared.types.HomeLine.{HomeLine}
use Rattle.ix_lines.specs.declared.types.RingLine.{RingLine}
use Rattle.ix_lines.specs.declared.types.SettleLine.{SettleLine}
use Rattle.ix_core.specs.declared.settling.SettleReport.{SettleReport}
use Rattle.ix_order.specs.Wire.{Entry as WordEntry}
use Rattle.ix_wire.specs.declared.entry.Entry.{Entry}
use Rattle.ix_wire.specs.declared.entry.Entry.TheVariants as wire
use Rattle.ix_engine.specs.Steps.{home_line, ring_line}
use Rattle.ix_fits.specs.Card.{entry_of}
use Rattle.ix_fits.specs.Wires.{AreSeen, IsSeen}
use Rattle.ix_tells.specs.Wholes.{LineTells}
use Rattle.ix_course.specs.Course.{AreLinesOf, IsLineOf}

-- ## Settles
pub line-tells : (line : SettleLine) (report : SettleReport) → line.rings ≡ map ring_line report.rings.items → line.homes ≡ map home_line report.homes.items → LineTells line report
line-tells line report rings homes = record {
  rings_count = ap length rings ∙ length-map report.rings.items ring_line;
  rings = λ c l r lt. ap (λ (ls : List RingLine). get_or ls c l) rings ∙ get_or-map ring_line report.rings.items c r l lt;
  homes_count = ap length homes ∙ length-map report.homes.items home_line;
  homes = λ c l h lt. ap (λ (ls : List HomeLine). get_or ls c l) homes ∙ get_or-map home_line report.homes.items c h l lt;
}

-- ## One more
pub one-more-passes : {X : Type 0} (p : X → Bool) (xs : List X) (x : X) → list_all p xs ≡ true → p x ≡ true → list_all p (xs ++ x ∷ []) ≡ true
one-more-passes p xs x all one = list_all-append p xs (x ∷ []) ∙ ap (λ b. b && list_all p (x ∷ [])) all ∙ ap (λ b. b && true) one

pub all-append : {X : Type 0} (P : X → Type 0) (xs ys : List X) → AllByRecursion P xs → AllByRecursion P ys → AllByRecursion P (xs ++ ys)
all-append P [] ys a b = b
all-append P (x ∷ xs) ys a b = (a.0, all-append P xs ys a.1 b)

-- ## Entries
seen-of : (e : Entry) (l : EntryLine) → IsLineOf e l → IsSeen e (entry_of l)
seen-of (wire.Frame rec) (lines.Frame shown at group ring fate) h = tt
seen-of (wire.Time t) (lines.Time u) h = tt
seen-of (wire.Tag g) (lines.Tag k) h = ap (λ x. x.0) h
seen-of (wire.Move g to) (lines.Move k d) h = (ap (λ x. x.0) h.0, ap (λ x. x.0) h.1)
seen-of wire.Settle lines.Settle h = tt
seen-of (wire.Frame rec) (lines.Time u) h = absurd h
seen-of (wire.Frame rec) (lines.Tag k) h = absurd h
seen-of (wire.Frame rec) (lines.Move k d) h = absurd h
seen-of (wire.Frame rec) lines.Settle h = absurd h
seen-of (wire.Time t) (lines.Frame shown at group ring fate) h = absurd h
seen-of (wire.Time t) (lines.Tag k) h = absurd h
seen-of (wire.Time t) (lines.Move k d) h = absurd h
seen-of (wire.Time t) lines.Settle h = absurd h
seen-of (wire.Tag g) (lines.Frame shown at group ring fate) h = absurd h
seen-of (wire.Tag g) (lines.Time u) h = absurd h
seen-of (wire.Tag g) (lines.Move k d) h = absurd h
seen-of (wire.Tag g) lines.Settle h = absurd h
seen-of (wire.Move g to) (lines.Frame shown at group ring fate) h = absurd h
seen-of (wire.Move g to) (lines.Time u) h = absurd h
seen-of (wire.Move g to) (lines.Tag k) h = absurd h
seen-of (wire.Move g to) lines.Settle h = absurd h
seen-of wire.Settle (lines.Frame shown at group ring fate) h = absurd h
seen-of wire.Settle (lines.Time u) h = absurd h
seen-of wire.Settle (lines.Tag k) h = absurd h
seen-of wire.Settle (lines.Move k d) h = absurd h

pub are-seen : (es : List Entry) (ls : List EntryLine) → AreLinesOf es ls → AreSeen es (map entry_of ls)
are-seen [] [] h = tt
are-seen [] (l ∷ ls) h = absurd h
are-seen (e ∷ es) [] h = absurd h
are-seen (e ∷ es) (l ∷ ls) h = (seen-of e l h.0, are-seen es ls h.1)
