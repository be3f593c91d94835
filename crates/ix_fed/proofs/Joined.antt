-- One course behind another.
use Rattle.std.proofs.Common.{◌≡◌, ◌<◌, ◌+◌, ℕ, suc, List, [], ◌∷◌, ◌++◌, length, get_or, refl, ap, sym, subst, ◌∙◌, arith}
use Rattle.ix_lines.specs.declared.types.EntryLine.{EntryLine}
use Rattle.ix_lines.specs.declared.types.EntryLine.TheVariants as lines
use Rattle.ix_lines.specs.declared.types.SettleLine.{SettleLine}
use Rattle.ix_nic.specs.Cards.{CardView}
use Rattle.ix_nic.specs.Ports.{PortView}
use Rattle.ix_playdef.specs.Clock.{clock_after, clock_from}
use Rattle.ix_wire.specs.declared.entry.Entry.{Entry}
use Rattle.ix_wire.specs.declared.entry.Entry.TheVariants as wire
use Rattle.ix_fits.specs.Card.{settles_after}
use Rattle.ix_carried.specs.Course.{CardStays, Carried, CountsStay, Course}

-- ## Cards that stay
pub stays-joined : (x y z : CardView) → CardStays x y → CardStays y z → CardStays x z
stays-joined x y z a b = record {
  table = b.table ∙ a.table;
  count = b.count ∙ a.count;
  rings = λ r d lt. joins (get_or x.ports r d) (get_or y.ports r d) (get_or z.ports r d) (a.rings r d lt) (b.rings r d (subst (λ n. r < n) (sym a.count) lt));
}
  where
    joins : (p q s : PortView) → CountsStay p q → CountsStay q s → CountsStay p s
    joins p q s a b = record { items = b.items ∙ a.items; frames = b.frames ∙ a.frames; posted = b.posted ∙ a.posted }

pub stays-same : (x : CardView) → CardStays x x
stays-same x = record { table = refl; count = refl; rings = λ r d lt. record { items = refl; frames = refl; posted = refl } }

course-from : (frames : List (List ℕ)) (clock w : ℕ) (xs : List Entry) (ys : List EntryLine) (ss : List SettleLine) (a b c : CardView) → CardStays a b → Course frames clock w xs ys ss b c
    → Course frames clock w xs ys ss a c
course-from frames clock w [] [] ss a b c stays course = (course.0, stays-joined a b c stays course.1)
course-from frames clock w [] (y ∷ ys) ss a b c stays course = absurd course
course-from frames clock w (x ∷ xs) [] ss a b c stays course = absurd course
course-from frames clock w (x ∷ xs) (y ∷ ys) ss a b c stays course = (course.0, course.1, (stays-joined a b course.0 stays course.2.0, course.2.1, course.2.2))

-- ## Settles behind
abbrev More : List (List ℕ) → ℕ → ℕ → Entry → EntryLine → List SettleLine → List SettleLine → CardView → CardView → Type 0
More frames clock w x y ss ts a b = Carried frames clock w x y (ss ++ ts) a b × (settles_after y (ss ++ ts) ≡ settles_after y ss ++ ts)

carried-more : (frames : List (List ℕ)) (clock w : ℕ) (x : Entry) (y : EntryLine) (ss ts : List SettleLine) (a b : CardView) → Carried frames clock w x y ss a b → More frames clock w x y ss ts a b
carried-more frames clock w (wire.Frame rec) y ss ts a b so = (so, subst (λ (z : EntryLine). settles_after z (ss ++ ts) ≡ settles_after z ss ++ ts) (sym so.told) refl)
carried-more frames clock w (wire.Time t) y ss ts a b so = (so, subst (λ (z : EntryLine). settles_after z (ss ++ ts) ≡ settles_after z ss ++ ts) (sym so.told) refl)
carried-more frames clock w (wire.Tag group) y ss ts a b so = (so, subst (λ (z : EntryLine). settles_after z (ss ++ ts) ≡ settles_after z ss ++ ts) (sym so.told) refl)
carried-more frames clock w (wire.Move group to) y ss ts a b so = (so, subst (λ (z : EntryLine). settles_after z (ss ++ ts) ≡ settles_after z ss ++ ts) (sym so.told) refl)
carried-more frames clock w wire.Settle y ss ts a b so = (
  record { settle = so.settle; later = so.later ++ ts; next = ap (λ (zs : List SettleLine). zs ++ ts) so.next; settled = so.settled; told = so.told },
  subst (λ (z : EntryLine). settles_after z (ss ++ ts) ≡ settles_after z ss ++ ts) (sym so.told)
      (subst (λ (zs : List SettleLine). settles_after lines.Settle (zs ++ ts) ≡ settles_after lines.Settle zs ++ ts) (sym so.next) refl),
)

pub course-append : (frames : List (List ℕ)) (clock w : ℕ) (xs : List Entry) (ys : List EntryLine) (ss : List SettleLine) (us : List Entry) (vs : List EntryLine) (ts : List SettleLine) (a b c : CardView)
    → Course frames clock w xs ys ss a b → Course frames (clock_from clock xs) (w + length xs) us vs ts b c → Course frames clock w (xs ++ us) (ys ++ vs) (ss ++ ts) a c
course-append frames clock w [] [] ss us vs ts a b c first next =
    let none : w + 0 ≡ w = omega arith in
    subst (λ (zs : List SettleLine). Course frames clock w us vs (zs ++ ts) a c) (sym first.0)
    (course-from frames clock w us vs ts a b c first.1 (subst (λ (n : ℕ). Course frames clock n us vs ts b c) none next))
course-append frames clock w [] (y ∷ ys) ss us vs ts a b c first next = absurd first
course-append frames clock w (x ∷ xs) [] ss us vs ts a b c first next = absurd first
course-append frames clock w (x ∷ xs) (y ∷ ys) ss us vs ts a b c first next =
    let on : w + suc (length xs) ≡ suc w + length xs = omega arith in
    let more : More frames (clock_after clock x) w x y ss ts first.0 first.1 = carried-more frames (clock_after clock x) w x y ss ts first.0 first.1 first.2.1 in (
      first.0,
      first.1,
      (
        first.2.0,
        more.0,
        subst (λ (zs : List SettleLine). Course frames (clock_after clock x) (suc w) (xs ++ us) (ys ++ vs) zs first.1 c) (sym more.1)
            (course-append frames (clock_after clock x) (suc w) xs ys (settles_after y ss) us vs ts first.1 b c first.2.2
            (subst (λ (n : ℕ). Course frames (clock_from (clock_after clock x) xs) n us vs ts b c) on next)),
      ),
    )
