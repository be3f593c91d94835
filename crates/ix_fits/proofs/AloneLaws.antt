-- Each entry alone is a cutting.
use Rattle.std.proofs.Common.{◌≡◌, ℕ, suc, ◌≤◌, refl, ap, ◌∙◌, subst, Bool, true, false, List, [], ◌∷◌, ◌++◌, map, fold, arith}
use Rattle.std.specs.Prelude.{if◌then◌else◌, ◌==◌, is_some, Option, Some, None, unwrap_or}
use Rattle.std.specs.List.{AllByRecursion}
use Rattle.ix_lines.specs.declared.types.EntryLine.{EntryLine}
use Rattle.ix_order.specs.Steppers.{LastTag, none_yet, no_move, moved_to, last_tag_by, moved_by, next_core, stepper, tagged_by}
use Rattle.ix_order.specs.Wire.{Entry, frame, time, tag, move, settle}
use Rattle.ix_playdef.specs.declared.wire.Given.{Given}
use Rattle.ix_playdef.specs.declared.wire.Given.TheVariants.{Frame, Time}
use Rattle.ix_reta.specs.Table.{opening_core}
use Rattle.ix_wire.specs.declared.entry.Entry.{Entry as WireEntry}
use Rattle.ix_wire.specs.Entries.{IsWire, Terms}
use Rattle.ix_wire.specs.Entries as wires
use Rattle.ix_fits.specs.Alone.{AllAreStepped, CuttingsExist, HasCore}
use Rattle.ix_fits.specs.Card.{entry_of}
use Rattle.ix_fits.specs.Cutting.{Due, IsCutting, Stage, due_of, dues_from, first_stage, given_by, stage_after}
use Rattle.ix_fits.specs.Fits.{dues_of}
use Rattle.ix_fits.specs.Read.{alone}
use Rattle.ix_fits.specs.Wires.{AreSeen}
use Rattle.ix_fits.proofs.WireLaws.{agrees, reports_are_plays}

-- ## Who steps
next-tag : (g : ℕ) (es : List Entry) (t : Bool) → (fold (tagged_by g) true es ≡ false → is_some (next_core g es) ≡ true) → fold (tagged_by g) (if t then true else true) es ≡ false → is_some (next_core g es) ≡ true
next-tag g es true k e = k e
next-tag g es false k e = k e

next-move : (g : ℕ) (es : List Entry) (t : Bool) (c : ℕ) → (fold (tagged_by g) true es ≡ false → is_some (next_core g es) ≡ true) → fold (tagged_by g) (if t then false else true) es ≡ false
    → is_some (if t then Some c else next_core g es) ≡ true
next-move g es true c k e = refl
next-move g es false c k e = k e

-- a move follows an open tag that is closed in the end
next-there : (g : ℕ) (es : List Entry) → fold (tagged_by g) true es ≡ false → is_some (next_core g es) ≡ true
next-there g [] e = absurd (cc)
next-there g (frame h v ∷ es) e = next-there g es e
next-there g (time ∷ es) e = next-there g es e
next-there g (settle ∷ es) e = next-there g es e
next-there g (tag h ∷ es) e = next-tag g es (g == h) (next-there g es) e
next-there g (move h c ∷ es) e = next-move g es (g == h) c (next-there g es) e

-- where no move followed the last tag yet, it is open
abbrev pub Opens : LastTag → Bool → Type 0
Opens none_yet b = Unit {0}
Opens no_move b = b ≡ true
Opens (moved_to c) b = Unit {0}

opens-moved : (s : LastTag) (c : ℕ) → Opens (moved_by s c) false
opens-moved none_yet c = tt
opens-moved no_move c = tt
opens-moved (moved_to d) c = tt

pub opens-after : (g : ℕ) (s : LastTag) (b : Bool) (x : Entry) → Opens s b → Opens (last_tag_by g s x) (tagged_by g b x)
opens-after g s b (frame h v) p = p
opens-after g s b time p = p
opens-after g s b settle p = p
opens-after g s b (tag h) p = by_test (g == h)
  where
    by_test : (t : Bool) → Opens (if t then no_move else s) (if t then true else b)
    by_test true = refl
    by_test false = p
opens-after g s b (move h c) p = by_test (g == h)
  where
    by_test : (t : Bool) → Opens (if t then moved_by s c else s) (if t then false else b)
    by_test true = opens-moved s c
    by_test false = p

pub has-stepper : (g c : ℕ) (s : LastTag) (b : Bool) (es : List Entry) → Opens s b → fold (tagged_by g) b es ≡ false → is_some (stepper g c s es) ≡ true
has-stepper g c none_yet b es p e = refl
has-stepper g c (moved_to d) b es p e = refl
has-stepper g c no_move b es p e = next-there g es (subst (λ (t : Bool). fold (tagged_by g) t es ≡ false) p e)

-- what an entry gives has the entry's core
core-each : (core : Option ℕ) (s : Stage) (gs : List Given) (rest : List Due) → is_some core ≡ true → AllByRecursion HasCore rest → AllByRecursion HasCore (map (due_of core s) gs ++ rest)
core-each core s [] rest e p = p
core-each core s (x ∷ xs) rest e p = (e, core-each core s xs rest e p)

stepped-from : (frames : List (List ℕ)) (g opening : ℕ) (s : Stage) (w : ℕ) (ls : List EntryLine) → Opens s.last s.open_tag → fold (tagged_by g) s.open_tag (map entry_of ls) ≡ false
    → AllByRecursion HasCore (dues_from frames g opening s w ls)
unfolding dues_from
stepped-from frames g opening s w [] p e = tt
stepped-from frames g opening s w (l ∷ ls) p e =
    core-each (stepper g opening s.last (map entry_of (l ∷ ls))) s (given_by frames g w l) (dues_from frames g opening (stage_after g s l) (suc w) ls)
    (has-stepper g opening s.last s.open_tag (map entry_of (l ∷ ls)) p e)
    (stepped-from frames g opening (stage_after g s l) (suc w) ls (opens-after g s.last s.open_tag (entry_of l) p) e)

pub all_are_stepped : AllAreStepped
all_are_stepped frames g opening ls e = stepped-from frames g opening first_stage 0 ls tt e

-- ## Each alone
core-is : (o : Option ℕ) → is_some o ≡ true → o ≡ Some (unwrap_or o 0)
core-is None e = absurd (cc)
core-is (Some c) e = refl

alone-cut : (batch : ℕ) (ds : List Due) → 1 ≤ batch → AllByRecursion HasCore ds → IsCutting batch ds (map alone ds)
alone-cut batch [] le p = refl
alone-cut batch (d ∷ ds) le p = by_given d.given d.core d.tenure d.settles p.0 (alone-cut batch ds le p.1)
  where
    by_given : (x : Given) (core : Option ℕ) (tenure settles : ℕ) → is_some core ≡ true → IsCutting batch ds (map alone ds)
        → (let e : Due = record { given = x; core = core; tenure = tenure; settles = settles } in IsCutting batch (e ∷ ds) (alone e ∷ map alone ds))
    by_given (Frame t) core tenure settles some rest = (
      ds,
      record {
        some = omega arith;
        few = omega (arith, le);
        tenure = tenure;
        settles = settles;
        cut = ap (λ (o : Option ℕ). (let e : Due = record { given = Frame t; core = o; tenure = tenure; settles = settles } in e) ∷ ds) (core-is core some);
      },
      rest,
    )
    by_given (Time w t) core tenure settles some rest = (
      ds,
      record {
        tenure = tenure;
        settles = settles;
        cut = ap (λ (o : Option ℕ). (let e : Due = record { given = Time w t; core = o; tenure = tenure; settles = settles } in e) ∷ ds) (core-is core some);
      },
      rest,
    )

-- the two definitions of an open tag agree over seen entries
pub open-same : (g : ℕ) (b : Bool) (xs : List WireEntry) (ys : List Entry) → AreSeen xs ys → fold (tagged_by g) b ys ≡ fold (wires.tagged_by g) b xs
open-same g b [] [] seen = refl
open-same g b [] (y ∷ ys) seen = absurd seen
open-same g b (x ∷ xs) [] seen = absurd seen
open-same g b (x ∷ xs) (y ∷ ys) seen =
    open-same g (tagged_by g b y) xs ys seen.1 ∙ ap (λ (t : Bool). fold (wires.tagged_by g) t xs) (agrees g b x y seen.0).1

pub cuttings_exist : CuttingsExist
cuttings_exist s frames x es r g le is card lt =
    let seen = (reports_are_plays s frames es r card).seen in
    alone-cut s.batch (dues_of s frames r g) le
    (all_are_stepped frames g (opening_core s.live g).0 r.entries (open-same g false es (map entry_of r.entries) seen ∙ is.closed g lt))
