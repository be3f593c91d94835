-- One step of each loop over frames and items.
use Rattle.std.proofs.Common.{◌≡◌, ℕ, ◌+◌, ◌<◌, ◌≤◌, refl, sym, ap, ◌∙◌, subst, Bool, List, [], ◌∷◌, ◌++◌, length, get_or, drop, map, arith, append_assoc, append-nil}
use Rattle.std.specs.List.{All}
use Rattle.std.proofs.lemmas.List.{drop_more, drop_all, map-append}
use Rattle.std.proofs.lemmas.List.Elements.{All-push}
use Rattle.ix_base.specs.declared.id.CoreId.{CoreId}
use Rattle.ix_base.specs.declared.id.WireNo.{WireNo}
use Rattle.ix_groupdef.specs.declared.types.Taken.{Taken as Accepted}
use Rattle.ix_groupdef.specs.Setting.{Setting}
use Rattle.ix_groupdef.specs.Group.{Group, Cycle, Connect, run_cycle, run_cycles, run, connect_all, empty}
use Rattle.ix_groupdef.specs.Group as cycles
use Rattle.ix_stack.specs.declared.work.Taken.{Taken}
use Rattle.ix_stack.specs.declared.work.Work.{Work}
use Rattle.ix_stack.specs.declared.work.Work.TheVariants as works
use Rattle.ix_plainstack.specs.declared.stack.Stepped.{Stepped}
use Rattle.ix_plainstack.specs.Batches.{Batch, Frames, Time, accepted_as, batch_of, batches_behind, cycle_of, work_number}
use Rattle.ix_plainstack.specs.Owning.{Owning, IsReached, GoesOn, settled, run_batch, run_batches}
use Rattle.ix_plainstack.specs.Stack.{step_pair, steps_of}

-- ## Frames as the group takes them
pub accepted-next : (ts : List Taken) (i : ℕ) (d : Taken) (xs : List Accepted) → i < length ts → (xs ++ accepted_as (get_or ts i d) ∷ []) ++ map accepted_as (drop (i + 1) ts) ≡ xs ++ map accepted_as (drop i ts)
accepted-next ts i d xs lt =
    append_assoc xs (accepted_as (get_or ts i d) ∷ []) (map accepted_as (drop (i + 1) ts)) ∙ ap (λ us. xs ++ map accepted_as us) (sym (drop_more ts i d lt))

pub accepted-none : (ts : List Taken) (i : ℕ) (xs : List Accepted) → length ts ≤ i → xs ++ map accepted_as (drop i ts) ≡ xs
accepted-none ts i xs le = ap (λ us. xs ++ map accepted_as us) (drop_all i ts le) ∙ append-nil xs

pub ruleset for_accepted = (accepted-next, accepted-none)

pub sizes_push : (ts us : List Accepted) (t : Accepted) → us ≡ ts ++ t ∷ [] → All (λ (t : Accepted). length t.frame ≤ 2048) ts → length t.frame ≤ 2048 → All (λ (t : Accepted). length t.frame ≤ 2048) us
sizes_push ts us t e a small = subst (All (λ (t : Accepted). length t.frame ≤ 2048)) (sym e) (All-push (λ (t : Accepted). length t.frame ≤ 2048) ts t a small)

-- ## A group that is reached
run_cycles-push : (env : Setting) (cs : List Cycle) (c : Cycle) (g : Group) → run_cycles env (cs ++ c ∷ []) g ≡ run_cycle env c (run_cycles env cs g)
run_cycles-push env [] c g = refl
run_cycles-push env (d ∷ cs) c g = run_cycles-push env cs c (run_cycle env d g)

pub run-push : (env : Setting) (asked : List Connect) (cs : List Cycle) (c : Cycle) → run env asked (cs ++ c ∷ []) ≡ run_cycle env c (run env asked cs)
run-push env asked cs c = run_cycles-push env cs c (connect_all env asked empty)

pub one_cycle : (env : Setting) (g h : Group) (c : Cycle) (r : IsReached env g) → h ≡ run env r.asked (r.cs ++ c ∷ []) → h ≡ run_cycle env c g
one_cycle env g h c r e = e ∙ run-push env r.asked r.cs c ∙ ap (run_cycle env c) (sym r.is)

-- a cycle of frames, and what is owned after it
pub batch_is : (whole : Bool) (env : Setting) (core : CoreId) (ts : List Taken) (xs : List Accepted) (o p : Owning) (g : Group) (r : IsReached env o.group) → xs ≡ map accepted_as ts
    → g ≡ run env r.asked (r.cs ++ cycles.Frames core xs ∷ []) → p ≡ record { group = g; buffers = settled whole g.lives ts o.buffers } → p ≡ run_batch whole env core (Frames ts) o
unfolding run_batch
batch_is whole env core ts xs o p g r same ran is =
    let after : Group → Owning = λ k. record { group = k; buffers = settled whole k.lives ts o.buffers } in
    let here : g ≡ run env r.asked (r.cs ++ cycles.Frames core (map accepted_as ts) ∷ []) = ran ∙ ap (λ us. run env r.asked (r.cs ++ cycles.Frames core us ∷ [])) same in
    is ∙ ap after (one_cycle env o.group g (cycles.Frames core (map accepted_as ts)) r here)

pub reached_on : (env : Setting) (g : Group) (c : Cycle) → IsReached env g → IsReached env (run_cycle env c g)
reached_on env g c r = record { asked = r.asked; cs = r.cs ++ c ∷ []; is = ap (run_cycle env c) r.is ∙ sym (run-push env r.asked r.cs c) }

pub reached_batch : (whole : Bool) (env : Setting) (core : CoreId) (b : Batch) (o : Owning) → IsReached env o.group → IsReached env (run_batch whole env core b o).group
unfolding run_batch
reached_batch whole env core b o r = reached_on env o.group (cycle_of core b) r

pub reached_batches : (whole : Bool) (env : Setting) (core : CoreId) (bs : List Batch) (o : Owning) → IsReached env o.group → IsReached env (run_batches whole env core bs o).group
reached_batches whole env core [] o r = r
reached_batches whole env core (b ∷ bs) o r = reached_batches whole env core bs (run_batch whole env core b o) (reached_batch whole env core b o r)

-- ## Batches
pub batches-append : (whole : Bool) (env : Setting) (core : CoreId) (xs ys : List Batch) (o : Owning) → run_batches whole env core (xs ++ ys) o ≡ run_batches whole env core ys (run_batches whole env core xs o)
batches-append whole env core [] ys o = refl
batches-append whole env core (x ∷ xs) ys o = batches-append whole env core xs ys (run_batch whole env core x o)

pub some_frames : (whole : Bool) (env : Setting) (core : CoreId) (ts : List Taken) (o p : Owning) → 0 < length ts → p ≡ run_batch whole env core (Frames ts) o → p ≡ run_batches whole env core (batch_of ts) o
some_frames whole env core [] o p lt e = absurd (omega arith)
some_frames whole env core (t ∷ ts) o p lt e = e

pub no_frames : (whole : Bool) (env : Setting) (core : CoreId) (ts : List Taken) (o : Owning) → ts ≡ [] → o ≡ run_batches whole env core (batch_of ts) o
no_frames whole env core ts o e = ap (λ us. run_batches whole env core (batch_of us) o) (sym e)

-- a frame waits
pub frame_goes_on : (whole : Bool) (env : Setting) (core : CoreId) (t : Taken) (frames frames' : List Taken) (x : Owning) → IsReached env x.group → frames' ≡ frames ++ t ∷ [] → GoesOn whole env core (works.Frame t) frames x frames' x
frame_goes_on whole env core t frames frames' x r e =
    record { reached = r; same = λ rest. ap (λ fs. run_batches whole env core (batches_behind fs rest) x) e }

-- a time ends the cycle of those that wait, and is one
pub time_goes_on : (whole : Bool) (env : Setting) (core : CoreId) (w : WireNo) (now : ℕ) (frames frames' : List Taken) (x y z : Owning) → IsReached env x.group
    → y ≡ run_batches whole env core (batch_of frames) x → z ≡ run_batch whole env core (Time w now) y → frames' ≡ [] → GoesOn whole env core (works.Time w now) frames x frames' z
time_goes_on whole env core w now frames frames' x y z r e f g =
    record {
      reached = subst (λ o. IsReached env o.group) (sym f) (reached_batch whole env core (Time w now) y (subst (λ o. IsReached env o.group) (sym e) (reached_batches whole env core (batch_of frames) x r)));
      same = λ rest. ap (λ fs. run_batches whole env core (batches_behind fs rest) z) g
          ∙ ap (λ o. run_batches whole env core (batches_behind [] rest) o) (f ∙ ap (run_batch whole env core (Time w now)) e)
          ∙ sym (batches-append whole env core (batch_of frames) (Time w now ∷ batches_behind [] rest) x);
    }

-- ## Names
pub steps-next : (core : ℕ) (items : List Work) (i : ℕ) (d : Work) (ps : List (ℕ × ℕ)) → i < length items
    → (ps ++ (work_number (get_or items i d), core) ∷ []) ++ steps_of core (drop (i + 1) items) ≡ ps ++ steps_of core (drop i items)
steps-next core items i d ps lt =
    append_assoc ps ((work_number (get_or items i d), core) ∷ []) (steps_of core (drop (i + 1) items)) ∙ ap (λ us. ps ++ steps_of core us) (sym (drop_more items i d lt))

pub steps-none : (core : ℕ) (items : List Work) (i : ℕ) (ps : List (ℕ × ℕ)) → length items ≤ i → ps ++ steps_of core (drop i items) ≡ ps
steps-none core items i ps le = ap (λ us. ps ++ steps_of core us) (drop_all i items le) ∙ append-nil ps

pub steps-push : (ss : List Stepped) (s : Stepped) → map step_pair (ss ++ s ∷ []) ≡ map step_pair ss ++ step_pair s ∷ []
steps-push ss s = map-append step_pair ss (s ∷ [])

pub ruleset for_steps = (steps-next, steps-none, steps-push)

pub ruleset for_frames = (some_frames, no_frames)

pub ruleset for_item = (frame_goes_on, time_goes_on)

pub ruleset for_items = (batches-append)
