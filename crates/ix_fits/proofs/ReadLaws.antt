-- The cutting that is read takes all frames.
use Rattle.std.proofs.Common.{◌≡◌, ℕ, refl, sym, ap, ◌∙◌, Bool, true, false, List, [], ◌∷◌, ◌++◌, map, append_assoc, append-nil}
use Rattle.std.specs.Prelude.{Option}
use Rattle.ix_groupdef.specs.declared.types.Taken.{Taken}
use Rattle.ix_groupdef.specs.Group.{Cycle}
use Rattle.ix_groupdef.specs.Places.{accepted, frames_of}
use Rattle.ix_lines.specs.declared.types.ConnLine.{ConnLine}
use Rattle.ix_playdef.specs.declared.wire.Given.{Given}
use Rattle.ix_playdef.specs.declared.wire.Given.TheVariants.{Frame, Time}
use Rattle.ix_fits.specs.Cutting.{Due, frame_in, frames_due}
use Rattle.ix_fits.specs.Read.{ReadTakesAll, alone, cycle_alone, cycles_read, frame_step, is_flushed, is_heard, read_step}

accepted-append : (xs ys : List Cycle) → accepted (xs ++ ys) ≡ accepted xs ++ accepted ys
accepted-append [] ys = refl
accepted-append (x ∷ xs) ys = ap (λ ts. frames_of x ++ ts) (accepted-append xs ys) ∙ sym (append_assoc (frames_of x) (accepted xs) (accepted ys))

pub frames-append : (xs ys : List Due) → frames_due (xs ++ ys) ≡ frames_due xs ++ frames_due ys
frames-append [] ys = refl
frames-append (x ∷ xs) ys = ap (λ ts. frame_in x.given ++ ts) (frames-append xs ys) ∙ sym (append_assoc (frame_in x.given) (frames_due xs) (frames_due ys))

-- the frames of some entries, and of one more
frames-one : (ds : List Due) (d : Due) (more : List Taken) → frames_due (ds ++ d ∷ []) ++ more ≡ frames_due ds ++ (frame_in d.given ++ more)
frames-one ds d more =
    ap (λ ts. ts ++ more) (frames-append ds (d ∷ [])) ∙ append_assoc (frames_due ds) (frame_in d.given ++ []) more
    ∙ ap (λ ts. frames_due ds ++ ts) (append_assoc (frame_in d.given) [] more)

frames-alone : (d : Due) (g : Given) → frames_of (cycle_alone d g) ≡ frame_in g
frames-alone d (Frame t) = refl
frames-alone d (Time w t) = refl

accepted-alone : (ds : List Due) → accepted (map alone ds) ≡ frames_due ds
accepted-alone [] = refl
accepted-alone (d ∷ ds) =
    ap (λ ts. ts ++ accepted (map alone ds)) (frames-alone d d.given) ∙ ap (λ ts. frame_in d.given ++ ts) (accepted-alone ds)

takes-frame : (flushed heard : Bool) (ds : List Due) (d : Due) (rest : List Due → List Cycle) (more : List Taken) → ((us : List Due) → accepted (rest us) ≡ frames_due us ++ more)
    → accepted (frame_step flushed heard ds d rest) ≡ frames_due ds ++ (frame_in d.given ++ more)
takes-frame true heard ds d rest more k = ap (λ ts. frames_due (ds ++ d ∷ []) ++ ts) (k []) ∙ frames-one ds d more
takes-frame false true ds d rest more k = k (ds ++ d ∷ []) ∙ frames-one ds d more
takes-frame false false [] d rest more k = ap (λ ts. frames_of (alone d) ++ ts) (k []) ∙ ap (λ ts. ts ++ more) (frames-alone d d.given)
takes-frame false false (e ∷ ds) d rest more k = k ((e ∷ ds) ++ d ∷ []) ∙ frames-one (e ∷ ds) d more

takes-step : (conns : List ConnLine) (g : Given) (core : Option ℕ) (tenure settles : ℕ) (ds : List Due) (rest : List Due → List Cycle) (more : List Taken)
    → ((us : List Due) → accepted (rest us) ≡ frames_due us ++ more)
    → accepted (read_step conns g ds (record { given = g; core = core; tenure = tenure; settles = settles }) rest) ≡ frames_due ds ++ (frame_in g ++ more)
takes-step conns (Frame t) core tenure settles ds rest more k =
    takes-frame (is_flushed conns t.w.0) (is_heard conns t.w.0) ds (record { given = Frame t; core = core; tenure = tenure; settles = settles }) rest more k
takes-step conns (Time w t) core tenure settles ds rest more k =
    let d : Due = record { given = Time w t; core = core; tenure = tenure; settles = settles } in
    accepted-append (map alone (ds ++ d ∷ [])) (rest []) ∙ ap (λ ts. accepted (map alone (ds ++ d ∷ [])) ++ ts) (k [])
    ∙ ap (λ ts. ts ++ more) (accepted-alone (ds ++ d ∷ [])) ∙ frames-one ds d more

takes : (conns : List ConnLine) (ds es : List Due) → accepted (cycles_read conns ds es) ≡ frames_due ds ++ frames_due es
unfolding cycles_read
takes conns ds [] = accepted-alone ds ∙ sym (append-nil (frames_due ds))
takes conns ds (e ∷ es) =
    takes-step conns e.given e.core e.tenure e.settles ds (λ more. cycles_read conns more es) (frames_due es) (λ us. takes conns us es)

pub read_takes_all : ReadTakesAll
read_takes_all conns es = takes conns [] es
