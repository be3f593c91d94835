-- Numbers of buffers that are added up.
use Rattle.std.proofs.Common.{◌≡◌, ◌≢◌, ◌<◌, ◌+◌, ◌-◌, ◌⊎◌, inl, inr, ℕ, List, [], ◌∷◌, ◌++◌, length, length-append, get_or, take, sum_by, refl, sym, ap, ◌∙◌, arith}
use Rattle.std.proofs.lemmas.Bool.{cases_eq}
use Rattle.std.proofs.lemmas.List.{get_or-append_right, get_or_append_left}
use Rattle.std.proofs.lemmas.List.Sums.{sum_by_more}
use Rattle.ix_base.specs.declared.id.Owned.{Owned}
use Rattle.ix_mbuf.specs.Owners.{one_at}
use Rattle.ix_desk.specs.Views.{Group}
use Rattle.ix_desk.specs.Groups.{empty}
use Rattle.ix_desk.specs.Desks.{groups_wait}
use Rattle.ix_stack.specs.declared.work.Work.{Work}
use Rattle.ix_stack.specs.Works.{works_weight}
use Rattle.ix_nic.specs.declared.offer.Counts.{Counts}
use Rattle.ix_nic.specs.Ports.{capped}
use Rattle.ix_core.specs.declared.counting.Home.{Home}
use Rattle.ix_core.specs.declared.turning.Core.{Core}
use Rattle.ix_core.specs.Counting.{AreHomes, app_of, frames_over, held_of, home_of, owned_at, owned_of, owned_over, owned_plus, queue_of}

-- ## A number that stands still at its type's end
capped_plus : (s k n : ℕ) → n ≡ s + k → capped (capped s + k) ≡ capped n
capped_plus s k n e = omega (arith, e)

capped_both : (s k n : ℕ) → n ≡ s + k → capped (capped s + capped k) ≡ capped n
capped_both s k n e = omega (arith, e)

-- one more element of a list, of which a number that stands still is added
sum_capped : {X : Type 0} (w : X → ℕ) (xs : List X) (i : ℕ) (x : X) → i < length xs → x ≡ get_or xs i x
    → capped (capped (sum_by w (take i xs)) + capped (w x)) ≡ capped (sum_by w (take (i + 1) xs))
sum_capped w xs i x lt read = capped_both (sum_by w (take i xs)) (w x) (sum_by w (take (i + 1) xs)) (omega (arith, sum_by_more w xs i x lt, ap w read))

sum_plain : {X : Type 0} (w : X → ℕ) (xs : List X) (i : ℕ) (d : X) → i < length xs → capped (capped (sum_by w (take i xs)) + w (get_or xs i d)) ≡ capped (sum_by w (take (i + 1) xs))
sum_plain w xs i d lt = capped_plus (sum_by w (take i xs)) (w (get_or xs i d)) (sum_by w (take (i + 1) xs)) (sum_by_more w xs i d lt)

same_owned : (a b c a' b' c' : ℕ) → a ≡ a' → b ≡ b' → c ≡ c' → ◌≡◌ {A = Owned} (record { held = a; app = b; queue = c }) (record { held = a'; app = b'; queue = c' })
same_owned a b c a' b' c' p q r = cc

-- ## What flow groups own
pub owned_more : {U : Type 0} (owners : U → ℕ → Owned) (home : ℕ) (gs : List (Group U Work)) (g : ℕ) → g < length gs
    → owned_plus (owned_of owners home (take g gs)) (owned_at owners home (get_or gs g empty)) ≡ owned_of owners home (take (g + 1) gs)
owned_more owners home gs g lt =
    same_owned _ _ _ _ _ _
    (sum_plain (λ x. (owned_at owners home x).held) gs g empty lt)
    (sum_plain (λ x. (owned_at owners home x).app) gs g empty lt)
    (sum_plain (λ x. (owned_at owners home x).queue) gs g empty lt)

module _ {U E : Type 0} where
  pub owned_next : (owners : U → ℕ → Owned) (home : ℕ) (cores : List (Core U E)) (i : ℕ) (x : Core U E) → i < length cores → x ≡ get_or cores i x
      → owned_plus (owned_over owners home (take i cores)) (owned_of owners home x.desks.groups) ≡ owned_over owners home (take (i + 1) cores)
  owned_next owners home cores i x lt read =
      same_owned _ _ _ _ _ _
      (sum_capped (λ (c : Core U E). held_of owners home c.desks.groups) cores i x lt read)
      (sum_capped (λ (c : Core U E). app_of owners home c.desks.groups) cores i x lt read)
      (sum_capped (λ (c : Core U E). queue_of owners home c.desks.groups) cores i x lt read)

  pub frames_next : (home : ℕ) (cores : List (Core U E)) (i : ℕ) (x : Core U E) (n k m : ℕ) → i < length cores → x ≡ get_or cores i x → n ≡ capped (frames_over home (take i cores))
      → k ≡ capped (works_weight (one_at home) (groups_wait x.desks)) → m ≡ capped (n + k) → m ≡ capped (frames_over home (take (i + 1) cores))
  frames_next home cores i x n k m lt read so one more =
      more ∙ ap (λ z. capped (z + k)) so ∙ ap (λ z. capped (capped (frames_over home (take i cores)) + z)) one
      ∙ sum_capped (λ (c : Core U E). works_weight (one_at home) (groups_wait c.desks)) cores i x lt read

  -- ## Homes
  pub homes_none : (owners : U → ℕ → Owned) (cores : List (Core U E)) (rings : List Counts) (homes : List Home) → homes ≡ [] → AreHomes owners 0 cores rings homes
  homes_none owners cores rings homes none = record { count = ap length none; each = λ c d r h lt. absurd (omega arith) }

  homes_at : (owners : U → ℕ → Owned) (i : ℕ) (cores : List (Core U E)) (rings : List Counts) (homes : List Home) (n : Home)
      → ((d : Core U E) (r : Counts) → n ≡ home_of owners cores (get_or cores i d) (get_or rings i r).posted) → AreHomes owners i cores rings homes
      → (c : ℕ) (d : Core U E) (r : Counts) (h : Home) → c < i + 1 → (c ≡ i) ⊎ (c ≢ i) → get_or (homes ++ n ∷ []) c h ≡ home_of owners cores (get_or cores c d) (get_or rings c r).posted
  homes_at owners i cores rings homes n one so c d r h lt (inl here) =
      let place : c ≡ length homes = here ∙ sym so.count in
      let first : c - length homes ≡ 0 = omega arith in
      let last : get_or (homes ++ n ∷ []) c h ≡ n = get_or-append_right homes (n ∷ []) (length homes) c h refl (omega arith) ∙ ap (λ k. get_or (n ∷ []) k h) first in
      last ∙ one d r ∙ ap (λ k. home_of owners cores (get_or cores k d) (get_or rings k r).posted) (sym here)
  homes_at owners i cores rings homes n one so c d r h lt (inr apart) =
      get_or_append_left homes (n ∷ []) h c (omega (arith, so.count)) ∙ so.each c d r h (omega arith)

  pub homes_more : (owners : U → ℕ → Owned) (i : ℕ) (cores : List (Core U E)) (rings : List Counts) (homes after : List Home) (n : Home) → after ≡ homes ++ n ∷ []
      → ((d : Core U E) (r : Counts) → n ≡ home_of owners cores (get_or cores i d) (get_or rings i r).posted) → AreHomes owners i cores rings homes → AreHomes owners (i + 1) cores rings after
  homes_more owners i cores rings homes after n is one so = record {
    count = omega (arith, ap length is, length-append homes (n ∷ []), so.count);
    each = λ c d r h lt. ap (λ (l : List Home). get_or l c h) is ∙ homes_at owners i cores rings homes n one so c d r h lt (cases_eq c i);
  }
