-- Tags that are open behind entries.
use Rattle.std.proofs.Common.{◌≡◌, ◌+◌, ℕ, suc, List, [], ◌∷◌, length, map, fold, Bool, true, false, None, Some, refl, ap, ◌∙◌, arith}
use Rattle.std.specs.Prelude.{◌==◌, if◌then◌else◌, Option, is_some}
use Rattle.std.proofs.lemmas.Bool.Decides.{nat_tests}
use Rattle.ix_lines.specs.declared.types.EntryLine.{EntryLine}
use Rattle.ix_lines.specs.declared.types.EntryLine.TheVariants as lines
use Rattle.ix_order.specs.Steppers.{tagged_by}
use Rattle.ix_order.specs.Wire.{Entry, frame, time, tag, move, settle}
use Rattle.ix_wire.specs.declared.entry.Entry.{Entry as WireEntry}
use Rattle.ix_wire.specs.declared.entry.Entry.TheVariants as wire
use Rattle.ix_wire.specs.Entries as wires
use Rattle.ix_fits.specs.Card.{entry_of}
use Rattle.ix_fits.specs.Cutting.{reach_from, tag_after, up_to}
use Rattle.ix_fits.specs.Wires.{AreSeen, IsSeen}
use Rattle.ix_carried.specs.Closes.{ReachesAll, WiresClose}

same-either : (a b : ℕ) → (a == b) ≡ (b == a)
same-either a b = grind (arith, nat_tests)

-- ## As the two definitions have it
tagged-same : (g : ℕ) (b : Bool) (x : WireEntry) (y : Entry) → IsSeen x y → tagged_by g b y ≡ wires.tagged_by g b x
tagged-same g b (wire.Frame rec) (frame h v) is = refl
tagged-same g b (wire.Time t) time is = refl
tagged-same g b (wire.Tag h) (tag k) is = ap (λ (t : Bool). if t then true else b) (same-either g k ∙ ap (λ n. n == g) is)
tagged-same g b (wire.Move h c) (move k d) is = ap (λ (t : Bool). if t then false else b) (same-either g k ∙ ap (λ n. n == g) is.0)
tagged-same g b wire.Settle settle is = refl
tagged-same g b (wire.Frame rec) time is = absurd is
tagged-same g b (wire.Frame rec) (tag k) is = absurd is
tagged-same g b (wire.Frame rec) (move k d) is = absurd is
tagged-same g b (wire.Frame rec) settle is = absurd is
tagged-same g b (wire.Time t) (frame h v) is = absurd is
tagged-same g b (wire.Time t) (tag k) is = absurd is
tagged-same g b (wire.Time t) (move k d) is = absurd is
tagged-same g b (wire.Time t) settle is = absurd is
tagged-same g b (wire.Tag h) (frame k v) is = absurd is
tagged-same g b (wire.Tag h) time is = absurd is
tagged-same g b (wire.Tag h) (move k d) is = absurd is
tagged-same g b (wire.Tag h) settle is = absurd is
tagged-same g b (wire.Move h c) (frame k v) is = absurd is
tagged-same g b (wire.Move h c) time is = absurd is
tagged-same g b (wire.Move h c) (tag k) is = absurd is
tagged-same g b (wire.Move h c) settle is = absurd is
tagged-same g b wire.Settle (frame h v) is = absurd is
tagged-same g b wire.Settle time is = absurd is
tagged-same g b wire.Settle (tag k) is = absurd is
tagged-same g b wire.Settle (move k d) is = absurd is

all-tagged : (g : ℕ) (b : Bool) (xs : List WireEntry) (ys : List Entry) → AreSeen xs ys → fold (tagged_by g) b ys ≡ fold (wires.tagged_by g) b xs
all-tagged g b [] [] seen = refl
all-tagged g b [] (y ∷ ys) seen = absurd seen
all-tagged g b (x ∷ xs) [] seen = absurd seen
all-tagged g b (x ∷ xs) (y ∷ ys) seen =
    ap (λ (t : Bool). fold (tagged_by g) t ys) (tagged-same g b x y seen.0) ∙ all-tagged g (wires.tagged_by g b x) xs ys seen.1

pub wires_close : WiresClose
wires_close x es ys is seen g lt = all-tagged g false es ys seen ∙ is.closed g lt

-- ## How far a group has come
-- the tag that stands open is where one is
abbrev Agrees : Option ℕ → Bool → Type 0
Agrees o b = is_some o ≡ b

tag-agrees : (g h w : ℕ) (o : Option ℕ) (b : Bool) → Agrees o b → Agrees (if h == g then Some w else o) (if g == h then true else b)
tag-agrees g h w o b a = by_test (h == g) (g == h) (same-either h g)
  where
    by_test : (s t : Bool) → s ≡ t → Agrees (if s then Some w else o) (if t then true else b)
    by_test true true e = refl
    by_test false false e = a
    by_test true false e = absurd (cc)
    by_test false true e = absurd (cc)

move-agrees : (g h : ℕ) (o : Option ℕ) (b : Bool) → Agrees o b → Agrees (if h == g then None else o) (if g == h then false else b)
move-agrees g h o b a = by_test (h == g) (g == h) (same-either h g)
  where
    by_test : (s t : Bool) → s ≡ t → Agrees (if s then None else o) (if t then false else b)
    by_test true true e = refl
    by_test false false e = a
    by_test true false e = absurd (cc)
    by_test false true e = absurd (cc)

agrees-after : (g w : ℕ) (o : Option ℕ) (b : Bool) (l : EntryLine) → Agrees o b → Agrees (tag_after g w o l) (tagged_by g b (entry_of l))
agrees-after g w o b (lines.Frame rec at group ring fate) a = a
agrees-after g w o b (lines.Time t) a = a
agrees-after g w o b (lines.Tag group) a = tag-agrees g group.0 w o b a
agrees-after g w o b (lines.Move group to) a = move-agrees g group.0 o b a
agrees-after g w o b lines.Settle a = a

none-open : (w : ℕ) (o : Option ℕ) → is_some o ≡ false → up_to w o ≡ w
none-open w None e = refl
none-open w (Some opened) e = absurd (cc)

reached : (g w : ℕ) (o : Option ℕ) (b : Bool) (ls : List EntryLine) → Agrees o b → fold (tagged_by g) b (map entry_of ls) ≡ false → reach_from g w o ls ≡ w + length ls
reached g w o b [] a closed =
    let none : up_to w o ≡ w = none-open w o (a ∙ closed) in
    omega (arith, none)
reached g w o b (l ∷ ls) a closed =
    let later : reach_from g (suc w) (tag_after g w o l) ls ≡ suc w + length ls = reached g (suc w) (tag_after g w o l) (tagged_by g b (entry_of l)) ls (agrees-after g w o b l a) closed in
    omega (arith, later)

pub reaches_all : ReachesAll
reaches_all g ls closed =
    let all : reach_from g 0 None ls ≡ 0 + length ls = reached g 0 None false ls refl closed in
    omega (arith, all)
