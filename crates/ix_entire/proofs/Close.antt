-- The close of a run gives each core all its buffers.
use Rattle.std.proofs.Common.{◌≡◌, ◌≢◌, ◌<◌, ◌≤◌, ◌==◌, ℕ, zero, suc, true, false, List, [], ◌∷◌, ◌++◌, length, get_or, sum_by, refl, ap, sym, subst, ◌∙◌, arith, eq-eqb}
use Rattle.std.specs.Prelude.{if◌then◌else◌}
use Rattle.std.proofs.lemmas.Bool.Decides.{nat_tests}
use Rattle.std.proofs.lemmas.List.{append_cancel_left}
use Rattle.std.proofs.lemmas.List.Sums.{sum_by_push}
use Rattle.ix_base.specs.declared.id.BufId.{BufId}
use Rattle.ix_base.specs.declared.id.CoreId.{CoreId}
use Rattle.ix_mbuf.specs.declared.name.Name.{Name}
use Rattle.ix_mbuf.specs.Buffers.{Buffer, buffers_weight}
use Rattle.ix_mbuf.specs.Owners.{one_at, one_if, same_id, times, weigh}
use Rattle.ix_mbuf.specs.Pools.{all_names, unused}
use Rattle.ix_ring.specs.Ends.{known, taken}
use Rattle.ix_conf.specs.Settings.{Settings}
use Rattle.ix_nic.specs.Cards.{CardView}
use Rattle.ix_nic.specs.Ports.{PortView}
use Rattle.ix_core.specs.declared.closing.Closed.{Closed}
use Rattle.ix_core.specs.declared.turning.Core.{Core}
use Rattle.ix_core.specs.Closing.{AllAreOwn, AllAreThere, Closes, close_weight}
use Rattle.ix_core.specs.Meeting.{CardLearned, CoresLearned}
use Rattle.ix_core.specs.Renewing.{free_weight, posted_weight}
use Rattle.ix_core.specs.Weights.{desks_weight}
use Rattle.ix_epochs.specs.Ready.{IsReady}
use Rattle.ix_homes.specs.Held.{held, kept_weight, made}
use Rattle.ix_fits.specs.Card.{are_closed}
use Rattle.ix_entire.proofs.Lists.{all-are, an-element, both, sums-one, sums-same}
use Rattle.ix_entire.proofs.Weights.{AreAtRest, closes-as-held, cores-weigh}

-- ## Buffers of one home
here-at : (a h : ℕ) → a ≡ h → ◌≡◌ {A = ℕ} (if a == h then 1 else 0) 1
here-at a h e = let t : (a == h) ≡ true = grind (arith, nat_tests) in rw t refl

off-at : (a h : ℕ) → a ≢ h → ◌≡◌ {A = ℕ} (if a == h then 1 else 0) 0
off-at a h apart = let t : (a == h) ≡ false = grind (arith, nat_tests) in rw t refl

names-at : (h : ℕ) (home : CoreId) (n : ℕ) → home.0 ≡ h → weigh (one_at h) (all_names home n) ≡ n
names-at h home zero e = refl
names-at h home (suc n) e = omega (arith, sum_by_push (one_at h) (all_names home n) (unused home n), names-at h home n e, here-at home.0 h e)

names-off : (h : ℕ) (home : CoreId) (n : ℕ) → home.0 ≢ h → weigh (one_at h) (all_names home n) ≡ 0
names-off h home zero apart = refl
names-off h home (suc n) apart = omega (arith, sum_by_push (one_at h) (all_names home n) (unused home n), names-off h home n apart, off-at home.0 h apart)

made-at : {U E : Type 0} (cores : List (Core U E)) → ((c : ℕ) (d : Core U E) → c < length cores → (get_or cores c d).pool.home.0 ≡ c) → (c h : ℕ) (d : Core U E) → c < length cores → h ≡ c
    → made cores (one_at h) ≡ (get_or cores c d).pool.n
made-at {U} {E} cores numbers c h d lt is =
    sums-one (λ (x : Core U E). weigh (one_at h) (all_names x.pool.home x.pool.n)) cores c d (get_or cores c d).pool.n lt
    (names-at h (get_or cores c d).pool.home (get_or cores c d).pool.n (numbers c d lt ∙ sym is))
    (λ k e low apart. names-off h (get_or cores k e).pool.home (get_or cores k e).pool.n (λ same. apart (sym (numbers k e low) ∙ same ∙ is)))

-- ## A meeting
module _ {U E : Type 0} (weight : (Name → ℕ) → U → ℕ) (old new : CardView) (before after : List (Core U E)) (was : IsReady old before) (is : IsReady new after)
    (card : CardLearned old new) (cores : CoresLearned before after) (none : (c : ℕ) (d : Core U E) → c < length before → (get_or before c d).returns.items ≡ []) where
  known-same : (c : ℕ) (p : PortView) → c < length old.ports → known (get_or new.ports c p).posts ≡ known (get_or old.ports c p).posts
  known-same c p lt =
      let low : c < length before = subst (λ n. c < n) was.order.count lt in
      let d = an-element before c low in
      append_cancel_left (taken (get_or old.ports c p).posts) (known (get_or new.ports c p).posts) (known (get_or old.ports c p).posts)
      (ap (λ (bufs : List Buffer). bufs ++ known (get_or new.ports c p).posts) (sym (card.each c p).posts.took)
      ∙ sym (is.ports c p d (subst (λ n. c < n) (sym cores.count) low)).met ∙ (cores.each c d).posted.puts ∙ (was.ports c p d low).met)

  pub none-after : (c : ℕ) (d : Core U E) → c < length after → (get_or after c d).returns.items ≡ []
  none-after c d lt = ap (λ (x : Core U E). x.returns.items) (cores.each c d).rest ∙ none c d (subst (λ n. c < n) cores.count lt)

  -- it moves no buffer
  meets-hold : (f : Name → ℕ) → held weight new after f ≡ held weight old before f
  meets-hold f =
      omega (
        arith,
        cores-weigh (weight f) f after is.keep none-after,
        cores-weigh (weight f) f before was.keep none,
        sums-same (free_weight f) before after cores.count (λ k d lt. ap (λ (x : Core U E). free_weight f x) (cores.each k d).rest),
        sums-same (λ (x : Core U E). desks_weight (weight f) f x.desks) before after cores.count (λ k d lt. ap (λ (x : Core U E). desks_weight (weight f) f x.desks) (cores.each k d).rest),
        sums-same (posted_weight f) old.ports new.ports card.count (λ k p lt. ap (buffers_weight f) (known-same k p lt)),
        sums-same (kept_weight f) old.ports new.ports card.count (λ k p lt. ap (λ (q : PortView). kept_weight f q) (card.each k p).rest),
      )

  made-same : (f : Name → ℕ) → made after f ≡ made before f
  made-same f =
      sums-same (λ (x : Core U E). weigh f (all_names x.pool.home x.pool.n)) before after cores.count
      (λ k d lt. ap (λ (x : Core U E). weigh f (all_names x.pool.home x.pool.n)) (cores.each k d).rest)

  -- ## The close
  module _ (rest : AreAtRest 512 new after) (same : (f : BufId → ℕ) → held weight old before (λ x. f x.id) ≡ made before (λ x. f x.id)) where
    closes-as-made : (f : BufId → ℕ) → close_weight weight (λ x. f x.id) new after ≡ made after (λ x. f x.id)
    closes-as-made f = closes-as-held weight (λ x. f x.id) new after rest ∙ meets-hold (λ x. f x.id) ∙ same f ∙ sym (made-same (λ x. f x.id))

    all-own : AllAreOwn weight new after
    all-own x =
        let whole : close_weight weight (one_if x) new after ≡ sum_by (λ (c : Core U E). times x (all_names c.pool.home c.pool.n)) after = closes-as-made (λ i. if same_id x i then 1 else 0) in
        omega (arith, whole)

    all-there : AllAreThere weight new after
    all-there c d lt =
        let h : ℕ = (get_or after c d).pool.home.0 in
        let whole : close_weight weight (one_at h) new after ≡ made after (one_at h) = closes-as-made (λ i. if i.home.0 == h then 1 else 0) in
        whole ∙ made-at after is.order.numbers c h d lt (is.order.numbers c d lt)

    pub all-home : (finished : U → List Buffer → U → Type 0) (closed : Closed U E) (card' : CardView) (cores' : List (Core U E)) → Closes finished weight closed new card' after cores'
        → (c m : ℕ) (d : Core U E) → c < length after → get_or closed.pools.items c m ≡ (get_or after c d).pool.n
    all-home finished closed card' cores' closes c m d lt = closes.full all-own all-there c d m lt

pub pools-closed : (s : Settings) (pools : List ℕ) → length pools ≡ s.cores → ((c m : ℕ) → c < length pools → get_or pools c m ≡ s.buffers) → are_closed s pools ≡ true
pools-closed s pools count each = both (length pools == s.cores) _ (eq-eqb (length pools) s.cores count) (all-are s.buffers pools each)
