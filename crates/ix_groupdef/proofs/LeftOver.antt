-- Strays are frames of a cycle of their core that no connection took.
use Rattle.std.proofs.Common.{◌≡◌, ℕ, ◌≤◌, refl, sym, ap, ◌∙◌, subst, Bool, true, false, List, [], ◌∷◌, ◌++◌, append_assoc, append-nil, arith}
use Rattle.std.specs.Prelude.{◌&&◌, not, count_by, Option, Some, None, Result, Ok, Err}
use Rattle.std.specs.List.{AllByRecursion, list_any}
use Rattle.std.proofs.lemmas.Bool.Decides.{nat_tests}
use Rattle.ix_base.specs.declared.frame.Disposition.{Disposition}
use Rattle.ix_base.specs.declared.id.CoreId.{CoreId}
use Rattle.ix_base.specs.declared.id.Flow.{Flow}
use Rattle.ix_base.specs.declared.segment.Seg.{Seg}
use Rattle.ix_groupdef.specs.declared.types.Stray.{Stray}
use Rattle.ix_groupdef.specs.declared.types.TheConstants.{LIMIT}
use Rattle.ix_groupdef.specs.declared.types.Taken.{Taken}
use Rattle.ix_groupdef.specs.declared.types.Turn.{Turn}
use Rattle.ix_groupdef.specs.Setting.{Setting, mac_of}
use Rattle.ix_groupdef.specs.Life.{Life, lives, hears}
use Rattle.ix_groupdef.specs.Strays.{asks_to_open, segment_kind, reply_to_segment, reply_to}
use Rattle.ix_groupdef.specs.Group.{Group, has_room, stray_of, read_of, take_segment, take_as, take_frame, take_frames, Cycle, Frames, Time, run_cycle, run_cycles, Connect, connect, connect_to, connect_all, flow_of_connect, empty, run}
use Rattle.ix_groupdef.specs.Alone.{ticks, turn_at}
use Rattle.ix_groupdef.specs.StrayFrames.{BecomesAs, IsRefusedAs, IsLeftOver, StraysAreLeftOver}
use Rattle.ix_groupdef.proofs.Keeps.{by_test, by_answer}
use Rattle.ix_groupdef.proofs.Few.{few_live, few-take_as}
use Rattle.ix_groupdef.proofs.Frames.{take_frames-push}
use Rattle.ix_groupdef.proofs.StrayParts.{becomes}
use Rattle.ix_groupdef.proofs.Follows.{StandsFor, stands-run_cycle, stands-connected}

each-push : (P : Stray → Type 0) (ss : List Stray) (s : Stray) → AllByRecursion P ss → P s → AllByRecursion P (ss ++ s ∷ [])
each-push P [] s p q = (q, tt)
each-push P (x ∷ ss) s p q = (p.0, each-push P ss s p.1 q)

no_room : (ls : List Life) → count_by lives ls ≤ LIMIT → has_room ls ≡ false → count_by lives ls ≡ LIMIT
no_room ls few e = grind (arith, nat_tests)

second_false : (a b : Bool) → (a && b) ≡ false → a ≡ true → b ≡ false
second_false true b e f = e
second_false false b e f = absurd (cc)

-- ## Within a cycle of frames, `all`, on a core, after these cycles
module _ (env : Setting) (asked : List Connect) (cs : List Cycle) (core : CoreId) (all : List Taken) where
  abbrev now : Turn
  now = turn_at (ticks 0 cs) (Frames core all)

  abbrev Left : Stray → Type 0
  Left s = IsLeftOver env asked (cs ++ Frames core all ∷ []) s

  -- what the frame is left over as, where the connections refuse it
  left : (front rest : List Taken) (t : Taken) (g : Group) → all ≡ front ++ t ∷ rest → g ≡ take_frames env now front (run env asked cs) → IsRefusedAs env g.lives (read_of env t.frame)
      → (kind : Disposition) (reply : Option (List ℕ)) → BecomesAs env t (read_of env t.frame) (stray_of now t.w kind reply) → Left (stray_of now t.w kind reply)
  left front rest t g cut there refused kind reply b =
      record {
        before = cs;
        after = [];
        front = front;
        rest = rest;
        taken = t;
        turn = now;
        cut = ap (λ ts. cs ++ Frames core ts ∷ []) cut;
        its_turn = ap (λ ts. turn_at (ticks 0 cs) (Frames core ts)) cut;
        left_by = becomes env now t (read_of env t.frame) kind reply refl b;
        refused = subst (λ (h : Group). IsRefusedAs env h.lives (read_of env t.frame)) there refused;
      }

  left-take_segment : (front rest : List Taken) (t : Taken) (s : Seg) (g : Group) → all ≡ front ++ t ∷ rest → g ≡ take_frames env now front (run env asked cs) → read_of env t.frame ≡ Ok s
      → count_by lives g.lives ≤ LIMIT → AllByRecursion Left g.strays → AllByRecursion Left (take_segment env now t.w s g).strays
  unfolding take_segment
  left-take_segment front rest t s g cut there is few p =
      by_answer (λ h. AllByRecursion Left h.strays) (list_any (hears s.head.flow) g.lives) _ _ (λ _. p)
      (λ none. by_answer (λ h. AllByRecursion Left h.strays) (asks_to_open env s.head && has_room g.lives) _ _ (λ _. p)
      (λ nay. each-push Left g.strays _ p
      (left front rest t g cut there
      (subst (IsRefusedAs env g.lives) (sym is) (record { unheard = none; full = λ asks. no_room g.lives few (second_false (asks_to_open env s.head) (has_room g.lives) nay asks) }))
      (segment_kind env s.head) (reply_to_segment env s.head)
      (subst (λ r. BecomesAs env t r (stray_of now t.w (segment_kind env s.head) (reply_to_segment env s.head))) (sym is) (refl, refl)))))

  left-take_as : (front rest : List Taken) (t : Taken) (r : Result Seg Disposition) (g : Group) → all ≡ front ++ t ∷ rest → g ≡ take_frames env now front (run env asked cs) → read_of env t.frame ≡ r
      → count_by lives g.lives ≤ LIMIT → AllByRecursion Left g.strays → AllByRecursion Left (take_as r env now t g).strays
  left-take_as front rest t (Ok s) g cut there is few p = left-take_segment front rest t s g cut there is few p
  left-take_as front rest t (Err kind) g cut there is few p =
      each-push Left g.strays _ p
      (left front rest t g cut there (subst (IsRefusedAs env g.lives) (sym is) tt) kind (reply_to env.local kind t.frame)
      (subst (λ r. BecomesAs env t r (stray_of now t.w kind (reply_to env.local kind t.frame))) (sym is) (refl, refl)))

  left-take_frames : (front rest : List Taken) (g : Group) → all ≡ front ++ rest → g ≡ take_frames env now front (run env asked cs)
      → count_by lives g.lives ≤ LIMIT → AllByRecursion Left g.strays → AllByRecursion Left (take_frames env now rest g).strays
  left-take_frames front [] g cut there few p = p
  left-take_frames front (t ∷ rest) g cut there few p =
      left-take_frames (front ++ t ∷ []) rest (take_frame env now t g) (cut ∙ sym (append_assoc front (t ∷ []) rest))
      (ap (take_frame env now t) there ∙ sym (take_frames-push env now front t (run env asked cs)))
      (few-take_as env (read_of env t.frame) now t g few)
      (left-take_as front rest t (read_of env t.frame) g cut there refl few p)

-- ## Runs
left-later : (env : Setting) (asked : List Connect) (cs : List Cycle) (c : Cycle) (s : Stray) → IsLeftOver env asked cs s → IsLeftOver env asked (cs ++ c ∷ []) s
left-later env asked cs c s p =
    record {
      before = p.before;
      after = p.after ++ c ∷ [];
      front = p.front;
      rest = p.rest;
      taken = p.taken;
      turn = p.turn;
      cut = ap (λ ds. ds ++ c ∷ []) p.cut ∙ append_assoc p.before (Frames s.core (p.front ++ p.taken ∷ p.rest) ∷ p.after) (c ∷ []);
      its_turn = p.its_turn;
      left_by = p.left_by;
      refused = p.refused;
    }

each-later : (env : Setting) (asked : List Connect) (cs : List Cycle) (c : Cycle) (ss : List Stray) → AllByRecursion (IsLeftOver env asked cs) ss → AllByRecursion (IsLeftOver env asked (cs ++ c ∷ [])) ss
each-later env asked cs c [] p = tt
each-later env asked cs c (s ∷ ss) p = (left-later env asked cs c s p.0, each-later env asked cs c ss p.1)

left-run_cycle : (env : Setting) (asked : List Connect) (cs : List Cycle) (c : Cycle) (g : Group) → StandsFor env asked cs g → AllByRecursion (IsLeftOver env asked cs) g.strays
    → AllByRecursion (IsLeftOver env asked (cs ++ c ∷ [])) (run_cycle env c g).strays
unfolding run_cycle
left-run_cycle env asked cs (Frames core ts) g p q =
    subst (λ n. AllByRecursion (IsLeftOver env asked (cs ++ Frames core ts ∷ [])) (take_frames env (turn_at n (Frames core ts)) ts g).strays) (sym p.clock)
    (left-take_frames env asked cs core ts [] ts g refl p.is (subst (λ (h : Group). count_by lives h.lives ≤ LIMIT) (sym p.is) (few_live env asked cs)) (each-later env asked cs (Frames core ts) g.strays q))
left-run_cycle env asked cs (Time core w t) g p q = each-later env asked cs (Time core w t) g.strays q

left-run_cycles : (env : Setting) (asked : List Connect) (ds cs : List Cycle) (g : Group) → StandsFor env asked cs g → AllByRecursion (IsLeftOver env asked cs) g.strays
    → AllByRecursion (IsLeftOver env asked (cs ++ ds)) (run_cycles env ds g).strays
left-run_cycles env asked [] cs g p q = subst (λ es. AllByRecursion (IsLeftOver env asked es) g.strays) (sym (append-nil cs)) q
left-run_cycles env asked (d ∷ ds) cs g p q =
    subst (λ es. AllByRecursion (IsLeftOver env asked es) (run_cycles env ds (run_cycle env d g)).strays) (append_assoc cs (d ∷ []) ds)
    (left-run_cycles env asked ds (cs ++ d ∷ []) (run_cycle env d g) (stands-run_cycle env asked cs d g p) (left-run_cycle env asked cs d g p q))

-- connects leave nothing over
none-connect_to : (env : Setting) (m : Option (List ℕ)) (core : CoreId) (flow : Flow) (g : Group) → g.strays ≡ [] → (connect_to m env core flow g).strays ≡ []
none-connect_to env None core flow g e = e
none-connect_to env (Some mac) core flow g e = by_test (λ h. h.strays ≡ []) (has_room g.lives && not (list_any (hears flow) g.lives)) _ _ e e

none-connect_all : (env : Setting) (asked : List Connect) (g : Group) → g.strays ≡ [] → (connect_all env asked g).strays ≡ []
unfolding connect
none-connect_all env [] g e = e
none-connect_all env (c ∷ cs) g e = none-connect_all env cs (connect env c g) (none-connect_to env (mac_of c.ip env.neighbours) c.core (flow_of_connect env c) g e)

pub strays_are_left_over : StraysAreLeftOver
strays_are_left_over env asked cs =
    left-run_cycles env asked cs [] (connect_all env asked empty) (stands-connected env asked)
    (subst (AllByRecursion (IsLeftOver env asked [])) (sym (none-connect_all env asked empty refl)) tt)
