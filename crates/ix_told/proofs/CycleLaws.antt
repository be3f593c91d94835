-- Cycles that are made of a group's entries.
use Rattle.std.proofs.Common.{◌≡◌, ℕ, ◌+◌, ◌<◌, ◌≤◌, refl, sym, ap, ◌∙◌, subst, Bool, true, false, List, [], ◌∷◌, ◌++◌, length, map, take, drop, get_or, append_assoc, append-nil}
use Rattle.std.specs.Prelude.{◌&&◌, nat_le, unwrap_or, Option, Some}
use Rattle.std.proofs.lemmas.List.{drop_more, drop_all, map-append, map_more, take_all}
use Rattle.ix_base.specs.declared.id.CoreId.{CoreId}
use Rattle.ix_base.specs.declared.id.WireNo.{WireNo}
use Rattle.ix_groupdef.specs.declared.types.Taken.{Taken}
use Rattle.ix_groupdef.specs.Group.{Cycle, Frames, Time as TimeCycle}
use Rattle.ix_playdef.specs.declared.wire.Given.{Given}
use Rattle.ix_playdef.specs.declared.wire.Given.TheVariants.{Frame, Time}
use Rattle.ix_fits.specs.Cutting.{Due, frame_in, frames_due}
use Rattle.ix_fits.specs.Read.{alone, core_of, cycle_alone, cycle_with, first_core}
use Rattle.ix_told.specs.Entries.{core_number}
use Rattle.ix_told.specs.declared.cycle.ReadCycle.{ReadCycle}
use Rattle.ix_told.specs.Reading.{IsFrame, are_cycle, cycle_of, goes_with}

-- ## The core of an entry
pub core-some : (o : Option CoreId) (c : CoreId) → o ≡ Some c → c ≡ record { 0 = unwrap_or (core_number o) 0 }
core-some o c e = sym (ap (λ (x : Option CoreId). (let k : CoreId = record { 0 = unwrap_or (core_number x) 0 } in k)) e)

pub ruleset for_cores = (core-some)

-- ## Frames
pub frames-next : (xs : List Due) (i : ℕ) (x d : Due) (done after : List Taken) → i < length xs → x ≡ get_or xs i d → after ≡ done ++ frame_in x.given
    → done ++ frames_due (drop i xs) ≡ after ++ frames_due (drop (i + 1) xs)
frames-next xs i x d done after lt is put =
    ap (λ ys. done ++ frames_due ys) (drop_more xs i d lt ∙ ap (λ y. y ∷ drop (i + 1) xs) (sym is))
    ∙ sym (append_assoc done (frame_in x.given) (frames_due (drop (i + 1) xs)))
    ∙ ap (λ (ts : List Taken). ts ++ frames_due (drop (i + 1) xs)) (sym put)

pub frames-end : (xs : List Due) (i : ℕ) (done : List Taken) → length xs ≤ i → done ++ frames_due (drop i xs) ≡ done
frames-end xs i done le = ap (λ ys. done ++ frames_due ys) (drop_all i xs le) ∙ append-nil done

pub ruleset for_frames = (frames-next, frames-end)

pub frames-push : (ds : List Due) (d : Due) → frames_due (ds ++ d ∷ []) ≡ frames_due ds ++ frame_in d.given
frames-push [] d = append-nil (frame_in d.given)
frames-push (x ∷ ds) d = ap (λ ts. frame_in x.given ++ ts) (frames-push ds d) ∙ sym (append_assoc (frame_in x.given) (frames_due ds) (frame_in d.given))

-- ## One cycle
pub is-frame : (given : Given) (t : Taken) → given ≡ Frame t → IsFrame given
is-frame given t e = subst IsFrame (sym e) tt

pub cycle-made : (ds : List Due) (d : Due) (core : CoreId) (waiting frames : List Taken) → core ≡ first_core (core_of d) ds → waiting ≡ frames_due ds → frames ≡ waiting ++ frame_in d.given
    → Frames core frames ≡ cycle_with ds d
cycle-made ds d core waiting frames on have put =
    ap (λ (c : CoreId). Frames c frames) on
    ∙ ap (λ (ts : List Taken). Frames (first_core (core_of d) ds) ts) (put ∙ ap (λ ts. ts ++ frame_in d.given) have ∙ sym (frames-push ds d))

pub frame-alone : (d : Due) (core : CoreId) (t : Taken) (frames : List Taken) → d.given ≡ Frame t → core ≡ core_of d → frames ≡ [] ++ frame_in d.given → Frames core frames ≡ alone d
frame-alone d core t frames is on put =
    ap (λ (c : CoreId). Frames c frames) on
    ∙ ap (λ (ts : List Taken). Frames (core_of d) ts) (put ∙ ap frame_in is)
    ∙ sym (ap (cycle_alone d) is)

pub time-alone : (d : Due) (core : CoreId) (w : WireNo) (t : ℕ) → d.given ≡ Time w t → core ≡ core_of d → TimeCycle core w t ≡ alone d
time-alone d core w t is on = ap (λ (c : CoreId). TimeCycle c w t) on ∙ sym (ap (cycle_alone d) is)

pub ruleset for_cycles = (is-frame, cycle-made, frame-alone, time-alone)

-- ## Each alone
pub alone-next : (xs : List Due) (i : ℕ) (x d : Due) (before done after : List ReadCycle) (c : ReadCycle) → i < length xs → x ≡ get_or xs i d → after ≡ done ++ c ∷ [] → cycle_of c ≡ alone x
    → map cycle_of done ≡ map cycle_of before ++ map alone (take i xs) → map cycle_of after ≡ map cycle_of before ++ map alone (take (i + 1) xs)
alone-next xs i x d before done after c lt is put made e =
    ap (map cycle_of) put ∙ map-append cycle_of done (c ∷ [])
    ∙ ap (λ (cs : List Cycle). cs ++ cycle_of c ∷ []) e
    ∙ append_assoc (map cycle_of before) (map alone (take i xs)) (cycle_of c ∷ [])
    ∙ ap (λ (k : Cycle). map cycle_of before ++ (map alone (take i xs) ++ k ∷ [])) (made ∙ ap alone is)
    ∙ ap (λ (cs : List Cycle). map cycle_of before ++ cs) (sym (map_more alone xs i d lt))

pub alone-none : (xs : List Due) (before : List ReadCycle) → map cycle_of before ≡ map cycle_of before ++ map alone (take 0 xs)
alone-none xs before = sym (append-nil (map cycle_of before))

pub alone-all : (xs : List Due) (i : ℕ) (before done : List ReadCycle) → length xs ≤ i → map cycle_of done ≡ map cycle_of before ++ map alone (take i xs)
    → map cycle_of done ≡ map cycle_of before ++ map alone xs
alone-all xs i before done le e = e ∙ ap (λ (ds : List Due). map cycle_of before ++ map alone ds) (take_all i xs le)

pub ruleset for_alone = (alone-next, alone-none, alone-all)

-- ## The tests
and-true : (b : Bool) → (b && true) ≡ b
and-true true = refl
and-true false = refl

pub one-fits : (batch : ℕ) (d : Due) → are_cycle batch (d ∷ []) ≡ (nat_le 1 batch && goes_with (core_of d) d d)
one-fits batch d = ap (λ (b : Bool). nat_le 1 batch && b) (and-true (goes_with (core_of d) d d))

pub ruleset for_tests = (one-fits)
