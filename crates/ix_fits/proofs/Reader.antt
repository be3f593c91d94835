-- What the reader of a cutting makes of cycles whose lines name their ends.
use Rattle.std.proofs.Common.{◌≡◌, ℕ, refl, sym, ap, ◌∙◌, Bool, true, false, List, [], ◌∷◌, ◌++◌, map, append_assoc}
use Rattle.std.specs.Prelude.{◌||◌, if◌then◌else◌}
use Rattle.std.proofs.lemmas.List.{map-append}
use Rattle.ix_base.specs.declared.id.CoreId.{CoreId}
use Rattle.ix_groupdef.specs.declared.types.Taken.{Taken}
use Rattle.ix_groupdef.specs.Group.{Group, Cycle, Frames, Time as TimeCycle, run_cycle}
use Rattle.ix_groupdef.specs.Life.{Life}
use Rattle.ix_groupdef.specs.Setting.{Setting}
use Rattle.ix_lines.specs.declared.types.ConnLine.{ConnLine}
use Rattle.ix_fits.specs.Cutting.{Due, IsCutting, frame_due}
use Rattle.ix_fits.specs.Read.{cycles_read, frame_step, is_flushed, is_heard}
use Rattle.ix_fits.proofs.ReadLaws.{frames-append}
use Rattle.ix_fits.proofs.ReadSplit.{split, split_all, split_by, takes}
use Rattle.ix_fits.proofs.SoundLaws.{frames-cycle}

-- ## What the lines must name
-- of some frames of a cycle the last one alone is flushed at
abbrev pub EndsFlushed : List ConnLine → Taken → List Taken → Type 0
EndsFlushed conns t [] = is_flushed conns t.w.0 ≡ true
EndsFlushed conns t (u ∷ us) = (is_flushed conns t.w.0 ≡ false) × EndsFlushed conns u us

abbrev pub MarkedBy : Bool → List ConnLine → Taken → List Taken → Type 0 → Type 0
MarkedBy true conns t ts rest = (is_heard conns t.w.0 ≡ true) × EndsFlushed conns t ts
MarkedBy false conns t ts rest = (is_heard conns t.w.0 ≡ false) × (is_flushed conns t.w.0 ≡ false) × rest

-- the frames before the first that one of these connections takes are not named; from there on, the last one is flushed at
abbrev pub Marked : Setting → List Life → List ConnLine → List Taken → Type 0
Marked env ls conns [] = Unit {0}
Marked env ls conns (t ∷ ts) = MarkedBy (takes env t ls) conns t ts (Marked env ls conns ts)

abbrev pub MarkedCycle : Setting → List Life → List ConnLine → Cycle → Type 0
MarkedCycle env ls conns (Frames core ts) = Marked env ls conns ts
MarkedCycle env ls conns (TimeCycle core w t) = Unit {0}

abbrev pub AllMarked : Setting → List ConnLine → Group → List Cycle → Type 0
AllMarked env conns g [] = Unit {0}
AllMarked env conns g (c ∷ cs) = MarkedCycle env g.lives conns c × AllMarked env conns (run_cycle env c g) cs

-- ## One cycle
some-either : {A : Type 0} (b : Bool) (x y : A) → (if b || true then x else y) ≡ x
some-either true x y = refl
some-either false x y = refl

-- a cycle that has begun with these frames goes on to the next that is flushed at
read-on : (conns : List ConnLine) (core : CoreId) (k q : ℕ) (rest : List Due) (v : Taken) (vs : List Taken) (u : Taken) (us : List Taken) → EndsFlushed conns u us
    → cycles_read conns (map (frame_due core k q) (v ∷ vs)) (map (frame_due core k q) (u ∷ us) ++ rest) ≡ Frames core ((v ∷ vs) ++ u ∷ us) ∷ cycles_read conns [] rest
unfolding cycles_read
read-on conns core k q rest v vs u [] ends =
    let ds : List Due = map (frame_due core k q) (v ∷ vs) in
    let d : Due = frame_due core k q u in
    let later : List Due → List Cycle = λ more. cycles_read conns more rest in
    ap (λ (b : Bool). frame_step b (is_heard conns u.w.0) ds d later) ends
    ∙ ap (λ (ts : List Taken). Frames core ts ∷ cycles_read conns [] rest)
    (frames-append ds (d ∷ []) ∙ ap (λ (ts : List Taken). ts ++ u ∷ []) (frames-cycle core k q (v ∷ vs)))
read-on conns core k q rest v vs u (w ∷ ws) ends =
    let ds : List Due = map (frame_due core k q) (v ∷ vs) in
    let d : Due = frame_due core k q u in
    let later : List Due → List Cycle = λ more. cycles_read conns more (map (frame_due core k q) (w ∷ ws) ++ rest) in
    ap (λ (b : Bool). frame_step b (is_heard conns u.w.0) ds d later) ends.0
    ∙ some-either {A = List Cycle} (is_heard conns u.w.0) (later (ds ++ d ∷ [])) (Frames (let c : CoreId = core in c) (u ∷ []) ∷ later [])
    ∙ ap later (sym (map-append (frame_due core k q) (v ∷ vs) (u ∷ [])))
    ∙ read-on conns core k q rest v (vs ++ u ∷ []) w ws ends.1
    ∙ ap (λ (ts : List Taken). Frames core ts ∷ cycles_read conns [] rest) (append_assoc (v ∷ vs) (u ∷ []) (w ∷ ws))

read-first : (conns : List ConnLine) (core : CoreId) (k q : ℕ) (rest : List Due) (t : Taken) (ts : List Taken) → is_heard conns t.w.0 ≡ true → EndsFlushed conns t ts
    → cycles_read conns [] (map (frame_due core k q) (t ∷ ts) ++ rest) ≡ Frames core (t ∷ ts) ∷ cycles_read conns [] rest
unfolding cycles_read
read-first conns core k q rest t [] heard ends =
    ap (λ (b : Bool). frame_step b (is_heard conns t.w.0) [] (frame_due core k q t) (λ more. cycles_read conns more rest)) ends
read-first conns core k q rest t (u ∷ us) heard ends =
    let d : Due = frame_due core k q t in
    let later : List Due → List Cycle = λ more. cycles_read conns more (map (frame_due core k q) (u ∷ us) ++ rest) in
    ap (λ (b : Bool). frame_step b (is_heard conns t.w.0) [] d later) ends.0
    ∙ ap (λ (b : Bool). frame_step false b [] d later) heard
    ∙ read-on conns core k q rest t [] u us ends.1

read-cycle : (env : Setting) (conns : List ConnLine) (core : CoreId) (k q : ℕ) (ls : List Life) (rest : List Due) (ts : List Taken) → Marked env ls conns ts
    → cycles_read conns [] (map (frame_due core k q) ts ++ rest) ≡ split env core ls ts ++ cycles_read conns [] rest
unfolding cycles_read
read-cycle env conns core k q ls rest [] m = refl
read-cycle env conns core k q ls rest (t ∷ ts) m = by_take (takes env t ls) m (read-cycle env conns core k q ls rest ts)
  where
    by_take : (b : Bool) → MarkedBy b conns t ts (Marked env ls conns ts)
        → (Marked env ls conns ts → cycles_read conns [] (map (frame_due core k q) ts ++ rest) ≡ split env core ls ts ++ cycles_read conns [] rest)
        → cycles_read conns [] (map (frame_due core k q) (t ∷ ts) ++ rest) ≡ split_by b core t ts (split env core ls ts) ++ cycles_read conns [] rest
    by_take true n ih = read-first conns core k q rest t ts n.0 n.1
    by_take false n ih =
        let d : Due = frame_due core k q t in
        let later : List Due → List Cycle = λ more. cycles_read conns more (map (frame_due core k q) ts ++ rest) in
        ap (λ (b : Bool). frame_step b (is_heard conns t.w.0) [] d later) n.1
        ∙ ap (λ (b : Bool). frame_step false b [] d later) n.0
        ∙ ap (λ (cs : List Cycle). Frames core (t ∷ []) ∷ cs) (ih n.2)

-- ## All cycles
pub read-all : (env : Setting) (conns : List ConnLine) (batch : ℕ) (cs : List Cycle) (ds : List Due) (g : Group) → IsCutting batch ds cs → AllMarked env conns g cs → cycles_read conns [] ds ≡ split_all env g cs
unfolding cycles_read
read-all env conns batch [] ds g p m = ap (cycles_read conns []) p
read-all env conns batch (Frames core ts ∷ cs) ds g p m =
    ap (cycles_read conns []) p.1.cut
    ∙ read-cycle env conns core p.1.tenure p.1.settles g.lives p.0 ts m.0
    ∙ ap (λ (more : List Cycle). split env core g.lives ts ++ more) (read-all env conns batch cs p.0 (run_cycle env (Frames core ts) g) p.2 m.1)
read-all env conns batch (TimeCycle core w t ∷ cs) ds g p m =
    ap (cycles_read conns []) p.1.cut
    ∙ ap (λ (more : List Cycle). TimeCycle core w t ∷ more) (read-all env conns batch cs p.0 (run_cycle env (TimeCycle core w t) g) p.2 m.1)
