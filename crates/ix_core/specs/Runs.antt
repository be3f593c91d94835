-- Histories of one event, and histories one after the other.
use Rattle.std.proofs.Common.{◌≡◌, ◌≤◌, ℕ, Bool, true, List, [], ◌∷◌, ◌++◌, refl, sym, ap, subst, ◌∙◌, append_assoc, arith}
use Rattle.std.specs.Prelude.{All, Some}
use Rattle.std.proofs.lemmas.List.Elements.{All-append, All-cons, All-nil, All-same}
use Rattle.ix_mbuf.specs.Buffers.{Buffer}
use Rattle.ix_desk.specs.Views.{View}
use Rattle.ix_desk.specs.Pieces.{joined}
use Rattle.ix_desk.specs.Groups.{landed, unit_of, changed}
use Rattle.ix_desk.specs.Desks.{group_at, with_group, welcome_at, Ships}
use Rattle.ix_desk.specs.Steps.{AllWorked}
use Rattle.ix_history.specs.Events.{Event, Happened, Parcel, RingItem, at_end, came, for_each, for_group, gone, lent, took, worked}
use Rattle.ix_history.specs.Items.{handed_out, taken_in}
use Rattle.ix_history.specs.Run.{Run, landed_in, shipped_in}
use Rattle.ix_history.specs.Runs.{Runs}
use Rattle.ix_stack.specs.declared.item.Item.{Item}
use Rattle.ix_stack.specs.declared.work.Work.{Work}
use Rattle.ix_core.specs.Items.{fits_now, given_now, item_fits, ring_item, with_item}

pub joined-append : {X I : Type 0} (f : X → List I) (xs ys : List X) → joined f (xs ++ ys) ≡ joined f xs ++ joined f ys
joined-append f [] ys = refl
joined-append f (x ∷ xs) ys = ap (λ zs. f x ++ zs) (joined-append f xs ys) ∙ sym (append_assoc (f x) (joined f xs) (joined f ys))

-- ## Histories in which nothing is worked
module _ {U I O : Type 0} where
  -- the bounds of the works of a history
  abbrev pub works_in : List (Event U I O) → List ℕ
  works_in [] = []
  works_in (took x ∷ es) = works_in es
  works_in (came c s ∷ es) = works_in es
  works_in (worked max ∷ es) = max ∷ works_in es
  works_in (gone s ∷ es) = works_in es
  works_in (lent h u out v ∷ es) = works_in es

module _ {U E : Type 0} (counted : Work → Bool) (name : Work → ℕ) (stepped : U → List (ℕ × ℕ)) (advanced : U → E → ℕ → List Work → U → Type 0) (drained : U → List Buffer → U → Type 0) (env : E) where
  -- A history of desks that step nothing: it took these items, these flow groups came, these buffers were handed out, and these flow groups left.
  pub record Calm (x y : View U Work) (items : List (RingItem Work)) (ins : List (ℕ × Parcel U Work)) (frees : List (List Buffer)) (outs : List (Parcel U Work)) : Type 0 where
    pub run : Run counted name stepped advanced drained env x y items ins frees outs
    pub calm : works_in run.events ≡ []

  -- A history of desks that work within a bound: it took these items, these flow groups came, these buffers were handed out, and these flow groups left.
  pub record Bounded (most : ℕ) (x y : View U Work) (items : List (RingItem Work)) (ins : List (ℕ × Parcel U Work)) (frees : List (List Buffer)) (outs : List (Parcel U Work)) : Type 0 where
    pub run : Run counted name stepped advanced drained env x y items ins frees outs
    pub works : All (λ max. max ≤ most) (works_in run.events)

-- ## Laws
pub both : {I : Type 0} (a b c d : List I) → a ≡ b → c ≡ d → a ++ c ≡ b ++ d
both a b c d p q = ap (λ z. z ++ c) p ∙ ap (λ z. b ++ z) q

module _ {U : Type 0} where
  pub taken-append : (es fs : List (Event U Work (List Buffer))) → taken_in (es ++ fs) ≡ taken_in es ++ taken_in fs
  taken-append [] fs = refl
  taken-append (took x ∷ es) fs = ap (λ l. x ∷ l) (taken-append es fs)
  taken-append (came c s ∷ es) fs = taken-append es fs
  taken-append (worked max ∷ es) fs = taken-append es fs
  taken-append (gone s ∷ es) fs = taken-append es fs
  taken-append (lent h u out v ∷ es) fs = taken-append es fs

  pub landed-append : (es fs : List (Event U Work (List Buffer))) → landed_in (es ++ fs) ≡ landed_in es ++ landed_in fs
  landed-append [] fs = refl
  landed-append (took x ∷ es) fs = landed-append es fs
  landed-append (came c s ∷ es) fs = ap (λ l. (c, s) ∷ l) (landed-append es fs)
  landed-append (worked max ∷ es) fs = landed-append es fs
  landed-append (gone s ∷ es) fs = landed-append es fs
  landed-append (lent h u out v ∷ es) fs = landed-append es fs

  pub handed-append : (es fs : List (Event U Work (List Buffer))) → handed_out (es ++ fs) ≡ handed_out es ++ handed_out fs
  handed-append [] fs = refl
  handed-append (took x ∷ es) fs = handed-append es fs
  handed-append (came c s ∷ es) fs = handed-append es fs
  handed-append (worked max ∷ es) fs = handed-append es fs
  handed-append (gone s ∷ es) fs = handed-append es fs
  handed-append (lent h u out v ∷ es) fs = ap (λ l. out ∷ l) (handed-append es fs)

  pub shipped-append : (es fs : List (Event U Work (List Buffer))) → shipped_in (es ++ fs) ≡ shipped_in es ++ shipped_in fs
  shipped-append [] fs = refl
  shipped-append (took x ∷ es) fs = shipped-append es fs
  shipped-append (came c s ∷ es) fs = shipped-append es fs
  shipped-append (worked max ∷ es) fs = shipped-append es fs
  shipped-append (gone s ∷ es) fs = ap (λ l. s ∷ l) (shipped-append es fs)
  shipped-append (lent h u out v ∷ es) fs = shipped-append es fs

  pub works-append : (es fs : List (Event U Work (List Buffer))) → works_in (es ++ fs) ≡ works_in es ++ works_in fs
  works-append [] fs = refl
  works-append (took x ∷ es) fs = works-append es fs
  works-append (came c s ∷ es) fs = works-append es fs
  works-append (worked max ∷ es) fs = ap (λ l. max ∷ l) (works-append es fs)
  works-append (gone s ∷ es) fs = works-append es fs
  works-append (lent h u out v ∷ es) fs = works-append es fs

module _ {U E : Type 0} (counted : Work → Bool) (name : Work → ℕ) (stepped : U → List (ℕ × ℕ)) (advanced : U → E → ℕ → List Work → U → Type 0) (drained : U → List Buffer → U → Type 0) (env : E) where
  runs-append : (es fs : List (Event U Work (List Buffer))) (x y z : View U Work) → Runs (Happened counted name stepped advanced drained env) x es y
      → Runs (Happened counted name stepped advanced drained env) y fs z → Runs (Happened counted name stepped advanced drained env) x (es ++ fs) z
  runs-append [] fs x y z p q = subst (λ (w : View U Work). Runs (Happened counted name stepped advanced drained env) w fs z) p q
  runs-append (e ∷ es) fs x y z p q = (p.0, p.1, runs-append es fs p.0 y z p.2 q)

  pub run-stays : (x : View U Work) → Run counted name stepped advanced drained env x x [] [] [] []
  run-stays x = record { events = []; runs = refl; took_all = refl; landed_all = refl; handed_all = refl; shipped_all = refl }

  pub run-joins : (x y z : View U Work) (i j : List (RingItem Work)) (a b : List (ℕ × Parcel U Work)) (c d : List (List Buffer)) (k l : List (Parcel U Work))
      → Run counted name stepped advanced drained env x y i a c k → Run counted name stepped advanced drained env y z j b d l → Run counted name stepped advanced drained env x z (i ++ j) (a ++ b) (c ++ d) (k ++ l)
  run-joins x y z i j a b c d k l p q = record {
    events = p.events ++ q.events;
    runs = runs-append p.events q.events x y z p.runs q.runs;
    took_all = taken-append p.events q.events ∙ both _ _ _ _ p.took_all q.took_all;
    landed_all = landed-append p.events q.events ∙ both _ _ _ _ p.landed_all q.landed_all;
    handed_all = handed-append p.events q.events ∙ both _ _ _ _ p.handed_all q.handed_all;
    shipped_all = shipped-append p.events q.events ∙ both _ _ _ _ p.shipped_all q.shipped_all;
  }

  taken-happens : (x y : View U Work) (it : RingItem Work) → fits_now x it ≡ true → y ≡ given_now x it → Happened counted name stepped advanced drained env x (took it) y
  taken-happens x y (for_group g it) f e = (f, e)
  taken-happens x y (for_each w) f e = e
  taken-happens x y at_end f e = e

  pub run-took : (x y : View U Work) (it : Item) → item_fits x it ≡ true → y ≡ with_item x it → Run counted name stepped advanced drained env x y (ring_item it ∷ []) [] [] []
  run-took x y it f e = record {
    events = took (ring_item it) ∷ [];
    runs = (y, taken-happens x y (ring_item it) f e, refl);
    took_all = refl;
    landed_all = refl;
    handed_all = refl;
    shipped_all = refl;
  }

  pub run-landed : (x y : View U Work) (n : ℕ) (s : Parcel U Work) → welcome_at x s.group s.tenure s.to ≡ true
      → y ≡ with_group x s.group (landed (group_at x s.group) (record { tenure = s.tenure; unit = s.unit; queue = s.queue }))
      → Run counted name stepped advanced drained env x y [] ((n, s) ∷ []) [] []
  run-landed x y n s f e = record {
    events = came n s ∷ [];
    runs = (y, (f, e), refl);
    took_all = refl;
    landed_all = refl;
    handed_all = refl;
    shipped_all = refl;
  }

  pub run-worked : (x y : View U Work) (most : ℕ) → AllWorked counted name stepped advanced env x.core most x y → Run counted name stepped advanced drained env x y [] [] [] []
  run-worked x y most e = record {
    events = worked most ∷ [];
    runs = (y, e, refl);
    took_all = refl;
    landed_all = refl;
    handed_all = refl;
    shipped_all = refl;
  }

  pub run-lent : (x y : View U Work) (g : ℕ) (u : U) (bufs : List Buffer) (v : U) → unit_of (group_at x g) ≡ Some u → drained u bufs v
      → y ≡ with_group x g (changed (group_at x g) v) → Run counted name stepped advanced drained env x y [] [] (bufs ∷ []) []
  run-lent x y g u bufs v here fact e = record {
    events = lent g u bufs v ∷ [];
    runs = (y, (here, fact, e), refl);
    took_all = refl;
    landed_all = refl;
    handed_all = refl;
    shipped_all = refl;
  }

  pub run-gone : (x y : View U Work) (s : Parcel U Work) → Ships x y s.group s.tenure s.to s.unit s.queue → Run counted name stepped advanced drained env x y [] [] [] (s ∷ [])
  run-gone x y s e = record {
    events = gone s ∷ [];
    runs = (y, e, refl);
    took_all = refl;
    landed_all = refl;
    handed_all = refl;
    shipped_all = refl;
  }

  -- ## The same of calm histories
  pub calm-stays : (x : View U Work) → Calm counted name stepped advanced drained env x x [] [] [] []
  unfolding run-stays
  calm-stays x = record { run = run-stays x; calm = refl }

  pub calm-joins : (x y z : View U Work) (i j : List (RingItem Work)) (a b : List (ℕ × Parcel U Work)) (c d : List (List Buffer)) (k l : List (Parcel U Work))
      → Calm counted name stepped advanced drained env x y i a c k → Calm counted name stepped advanced drained env y z j b d l → Calm counted name stepped advanced drained env x z (i ++ j) (a ++ b) (c ++ d) (k ++ l)
  unfolding run-joins
  calm-joins x y z i j a b c d k l p q = record {
    run = run-joins x y z i j a b c d k l p.run q.run;
    calm = works-append p.run.events q.run.events ∙ both _ [] _ [] p.calm q.calm;
  }

  pub calm-took : (x y : View U Work) (it : Item) → item_fits x it ≡ true → y ≡ with_item x it → Calm counted name stepped advanced drained env x y (ring_item it ∷ []) [] [] []
  unfolding run-took
  calm-took x y it f e = record { run = run-took x y it f e; calm = refl }

  pub calm-landed : (x y : View U Work) (n : ℕ) (s : Parcel U Work) → welcome_at x s.group s.tenure s.to ≡ true
      → y ≡ with_group x s.group (landed (group_at x s.group) (record { tenure = s.tenure; unit = s.unit; queue = s.queue }))
      → Calm counted name stepped advanced drained env x y [] ((n, s) ∷ []) [] []
  unfolding run-landed
  calm-landed x y n s f e = record { run = run-landed x y n s f e; calm = refl }

  pub calm-lent : (x y : View U Work) (g : ℕ) (u : U) (bufs : List Buffer) (v : U) → unit_of (group_at x g) ≡ Some u → drained u bufs v
      → y ≡ with_group x g (changed (group_at x g) v) → Calm counted name stepped advanced drained env x y [] [] (bufs ∷ []) []
  unfolding run-lent
  calm-lent x y g u bufs v here fact e = record { run = run-lent x y g u bufs v here fact e; calm = refl }

  pub calm-gone : (x y : View U Work) (s : Parcel U Work) → Ships x y s.group s.tenure s.to s.unit s.queue → Calm counted name stepped advanced drained env x y [] [] [] (s ∷ [])
  unfolding run-gone
  calm-gone x y s e = record { run = run-gone x y s e; calm = refl }

  -- ## The same of histories within a bound
  pub bounded-stays : (most : ℕ) (x : View U Work) → Bounded counted name stepped advanced drained env most x x [] [] [] []
  unfolding run-stays
  bounded-stays most x = record { run = run-stays x; works = All-nil (λ max. max ≤ most) }

  pub bounded-calm : (most : ℕ) (x y : View U Work) (items : List (RingItem Work)) (ins : List (ℕ × Parcel U Work)) (frees : List (List Buffer)) (outs : List (Parcel U Work))
      → Calm counted name stepped advanced drained env x y items ins frees outs → Bounded counted name stepped advanced drained env most x y items ins frees outs
  bounded-calm most x y items ins frees outs p = record { run = p.run; works = All-same (λ max. max ≤ most) (works_in p.run.events) [] p.calm (All-nil (λ max. max ≤ most)) }

  pub bounded-worked : (x y : View U Work) (most : ℕ) → AllWorked counted name stepped advanced env x.core most x y → Bounded counted name stepped advanced drained env most x y [] [] [] []
  unfolding run-worked
  bounded-worked x y most e = record { run = run-worked x y most e; works = All-cons (λ max. max ≤ most) most [] (omega arith) (All-nil (λ max. max ≤ most)) }

  pub bounded-joins : (most : ℕ) (x y z : View U Work) (i j : List (RingItem Work)) (a b : List (ℕ × Parcel U Work)) (c d : List (List Buffer)) (k l : List (Parcel U Work))
      → Bounded counted name stepped advanced drained env most x y i a c k → Bounded counted name stepped advanced drained env most y z j b d l
      → Bounded counted name stepped advanced drained env most x z (i ++ j) (a ++ b) (c ++ d) (k ++ l)
  unfolding run-joins
  bounded-joins most x y z i j a b c d k l p q = record {
    run = run-joins x y z i j a b c d k l p.run q.run;
    works = All-same (λ max. max ≤ most) (works_in (p.run.events ++ q.run.events)) (works_in p.run.events ++ works_in q.run.events) (works-append p.run.events q.run.events)
        (All-append (λ max. max ≤ most) (works_in p.run.events) (works_in q.run.events) p.works q.works);
  }
