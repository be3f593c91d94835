-- The buffers' places over an epoch and a settle.
use Rattle.std.proofs.Common.{◌≡◌, ◌<◌, ℕ, suc, Bool, List, [], ◌∷◌, length, get_or, sum_by, refl, sym, ap, subst, ◌∙◌, arith}
use Rattle.std.specs.Prelude.{Some}
use Rattle.std.proofs.lemmas.List.Elements.{All-nil, All-same}
use Rattle.std.proofs.lemmas.List.Sums.{sum_by-cons}
use Rattle.ix_base.specs.declared.id.BufId.{BufId}
use Rattle.ix_base.specs.declared.id.CoreId.{CoreId}
use Rattle.ix_base.specs.declared.id.Owned.{Owned}
use Rattle.ix_mbuf.specs.declared.name.Name.{Name}
use Rattle.ix_mbuf.specs.Buffers.{Buffer, buffers_weight}
use Rattle.ix_mbuf.specs.Owners.{maybe, weigh}
use Rattle.ix_mbuf.specs.Pools.{Stock, all_names}
use Rattle.ix_ring.specs.Ends.{known}
use Rattle.ix_desk.specs.Desks.{group_at}
use Rattle.ix_desk.specs.Groups.{unit_of}
use Rattle.ix_desk.specs.Views.{View}
use Rattle.ix_stack.specs.declared.work.Work.{Work}
use Rattle.ix_nic.specs.Cards.{CardView}
use Rattle.ix_nic.specs.Ports.{PortView, kept_count}
use Rattle.ix_core.specs.declared.settling.SettleReport.{SettleReport}
use Rattle.ix_core.specs.declared.link.Link.{Link}
use Rattle.ix_core.specs.declared.turning.Core.{Core}
use Rattle.ix_core.specs.Cores.{Ran}
use Rattle.ix_core.specs.Homing.{AreOwn}
use Rattle.ix_core.specs.Links.{IsDrained}
use Rattle.ix_core.specs.Renewing.{posted_weight}
use Rattle.ix_core.specs.Weights.{core_weight, link_weight}
use Rattle.ix_core.specs.Settling.{CoreSettled, Settles}
use Rattle.ix_epochs.specs.Ready.{EpochsAreReady, IsReady, SettlesAreReady}
use Rattle.ix_epochs.specs.Rest.{KeepsNothing, LinksRest, NothingIsOnRings}
use Rattle.ix_epochs.specs.Weights.{EpochsConserve}
use Rattle.ix_homes.specs.Held.{EpochsFill, HeldIsOwn, SettlesHold, held, kept_weight, made}
use Rattle.ix_homes.specs.Homes.{EpochsKeepOwn, IsHome, IsIdOf, IsLevel, PortsAreOwn, SettlesKeepOwn}
use Rattle.ix_uses.specs.Uses.{BuffersStay}
use Rattle.ix_tells.specs.Stays.{HomesStay, IsAlone, IsFresh, OpeningsAreHome}

-- some element of a list that isn't empty
an-element : {X : Type 0} (xs : List X) (c : ℕ) → c < length xs → X
an-element [] c lt = absurd (omega (arith, lt))
an-element (x ∷ xs) c lt = x

sums-same : {X : Type 0} (w : X → ℕ) (xs ys : List X) → length ys ≡ length xs → ((k : ℕ) (d : X) → k < length xs → w (get_or ys k d) ≡ w (get_or xs k d)) → sum_by w ys ≡ sum_by w xs
sums-same w [] [] len each = refl
sums-same w [] (y ∷ ys) len each = absurd (omega (arith, len))
sums-same w (x ∷ xs) [] len each = absurd (omega (arith, len))
sums-same w (x ∷ xs) (y ∷ ys) len each =
    omega (arith, sum_by-cons w x xs, sum_by-cons w y ys, each 0 x (omega arith), sums-same w xs ys (omega (arith, len)) (λ k d lt. each (suc k) d (omega (arith, lt))))

sums-equal : {X : Type 0} (w v : X → ℕ) (xs : List X) → ((k : ℕ) (d : X) → k < length xs → v (get_or xs k d) ≡ w (get_or xs k d)) → sum_by v xs ≡ sum_by w xs
sums-equal w v [] each = refl
sums-equal w v (x ∷ xs) each = omega (arith, sum_by-cons w x xs, sum_by-cons v x xs, each 0 x (omega arith), sums-equal w v xs (λ k d lt. each (suc k) d (omega (arith, lt))))

sums-none : {X : Type 0} (w : X → ℕ) (xs : List X) → ((k : ℕ) (d : X) → k < length xs → w (get_or xs k d) ≡ 0) → sum_by w xs ≡ 0
sums-none w [] each = refl
sums-none w (x ∷ xs) each = omega (arith, sum_by-cons w x xs, each 0 x (omega arith), sums-none w xs (λ k d lt. each (suc k) d (omega (arith, lt))))

-- ## Pools
names-same : (f : Name → ℕ) (x y : Stock) → y.home ≡ x.home → y.n ≡ x.n → weigh f (all_names y.home y.n) ≡ weigh f (all_names x.home x.n)
names-same f x y home n = ap (λ (h : CoreId). weigh f (all_names h y.n)) home ∙ ap (λ (m : ℕ). weigh f (all_names x.home m)) n

other-pool : (x y : Stock) (i : BufId) → y.home ≡ x.home → y.n ≡ x.n → IsIdOf x i → IsIdOf y i
other-pool x y i home n is = (is.0 ∙ sym home, subst (λ m. i.slot < m) (sym n) is.1)

level : {U : Type 0} (drained : U → List Buffer → U → Type 0) (v : View U Work) → length v.groups ≡ 512 → IsAlone v
    → ((g : ℕ) (u : U) → g < 512 → unit_of (group_at v g) ≡ Some u → IsDrained drained u) → IsLevel drained v
level drained v size alone clean = record { size = size; cut = alone.cut; early = alone.early; clean = clean }

-- the buffers that were made are those of the same pools
made-same : {U E : Type 0} (xs ys : List (Core U E)) → length ys ≡ length xs
    → ((k : ℕ) (d : Core U E) → k < length xs → ((get_or ys k d).pool.home ≡ (get_or xs k d).pool.home) × ((get_or ys k d).pool.n ≡ (get_or xs k d).pool.n))
    → (f : Name → ℕ) → made ys f ≡ made xs f
made-same {U} {E} xs ys len same f =
    sums-same (λ (c : Core U E). weigh f (all_names c.pool.home c.pool.n)) xs ys len (λ k d lt.
    names-same f (get_or xs k d).pool (get_or ys k d).pool (same k d lt).0 (same k d lt).1)

-- ## A settle
module _ {U E : Type 0} (drained : U → List Buffer → U → Type 0) (weight : (Name → ℕ) → U → ℕ) (owners : U → ℕ → Owned) where
  settles-make-home : SettlesAreReady U E → SettlesHold U E weight → HeldIsOwn U E weight → SettlesKeepOwn U E
      → (card card' : CardView) (report : SettleReport) (cores after : List (Core U E)) → IsReady card cores → NothingIsOnRings cores
      → ((c : ℕ) (d : Core U E) → c < length cores → IsLevel drained (get_or cores c d).desks) → PortsAreOwn card cores
      → ((f : BufId → ℕ) → held weight card cores (λ x. f x.id) ≡ made cores (λ x. f x.id))
      → Settles owners report card card' cores after → IsHome drained weight card' after
  settles-make-home settles-ready settles-hold held-own settles-own card card' report cores after ready empty levels ports same settles = record {
    ready = settles-ready owners report card card' cores after ready settles;
    level = λ c d lt. subst (IsLevel drained) (sym (desks c d (here c lt))) (levels c d (here c lt));
    none = λ c d lt. settles.none own c d (here c lt);
    free = λ c d lt k e below. other-pool (get_or cores c d).pool (get_or after c d).pool (get_or (get_or after c d).pool.free k e).id (settled c d (here c lt)).home (settled c d (here c lt)).slots ((settled c d (here c lt)).still k e below);
    posted = settles-own owners report card card' cores after ready.order.count ports settles;
    same = λ f. settles-hold owners report card card' cores after ready empty settles (λ x. f x.id) ∙ same f ∙ sym (made-same cores after settles.count (λ k d lt. ((settled k d lt).home, (settled k d lt).slots)) (λ x. f x.id));
  } where
    here : (c : ℕ) → c < length after → c < length cores
    here c lt = subst (λ n. c < n) settles.count lt

    settled : (c : ℕ) (d : Core U E) (lt : c < length cores) → let p : PortView = an-element card.ports c (subst (λ n. c < n) (sym ready.order.count) lt) in
        CoreSettled (get_or card.ports c p) (get_or card'.ports c p) (get_or cores c d) (get_or after c d)
    settled c d lt = settles.each c (an-element card.ports c (subst (λ n. c < n) (sym ready.order.count) lt)) d lt

    desks : (c : ℕ) (d : Core U E) → c < length cores → (get_or after c d).desks ≡ (get_or cores c d).desks
    desks c d lt = ap (λ (x : Core U E). x.desks) (settled c d lt).core_rest

    own : AreOwn cores
    own = held-own card cores ready empty same

  -- ## The opening
  links-weigh-none : (w : U → ℕ) (f : Name → ℕ) (ls : List (Link U E)) → LinksRest ls → sum_by (link_weight w f) ls ≡ 0
  links-weigh-none w f [] rests = refl
  links-weigh-none w f (l ∷ ls) rests =
      let first : link_weight w f l ≡ 0 = rw ((rests 0 l (omega arith)).ships, (rests 0 l (omega arith)).waits) refl in
      omega (arith, first, links-weigh-none w f ls (λ p e lt. rests (suc p) e (omega (arith, lt))), sum_by-cons (link_weight w f) l ls)

  fresh-weighs : (f : Name → ℕ) (p : PortView) (c : Core U E) → KeepsNothing c → IsFresh weight p c → core_weight (weight f) f c ≡ weigh f (all_names c.pool.home c.pool.n)
  fresh-weighs f p c keeps fresh = rw (keeps.came, keeps.lost, fresh.returns, fresh.free) (omega (arith, links-weigh-none (weight f) f c.links.items keeps.links, fresh.desks f))

  pub openings-are-home : SettlesAreReady U E → SettlesHold U E weight → HeldIsOwn U E weight → SettlesKeepOwn U E → OpeningsAreHome U E drained weight owners
  openings-are-home settles-ready settles-hold held-own settles-own card card' report cores after ready empty levels fresh settles =
      settles-make-home settles-ready settles-hold held-own settles-own card card' report cores after ready empty levels
      (λ c p d lt. record {
        posted = All-same (λ (b : Buffer). IsIdOf (get_or cores c d).pool b.name.id) (known (get_or card.ports c p).posts) [] (fresh c p d lt).posts (All-nil (λ (b : Buffer). IsIdOf (get_or cores c d).pool b.name.id));
        kept = λ b e. absurd (omega (arith, ap kept_count (sym (fresh c p d lt).kept ∙ e)));
      }) (λ f. all (λ x. f x.id)) settles
    where
      below : (k : ℕ) → k < length card.ports → k < length cores
      below k lt = subst (λ n. k < n) ready.order.count lt

      fresh-port : (k : ℕ) (p : PortView) (lt : k < length card.ports) → IsFresh weight (get_or card.ports k p) (get_or cores k (an-element cores k (below k lt)))
      fresh-port k p lt = fresh k p (an-element cores k (below k lt)) (below k lt)

      all : (f : Name → ℕ) → held weight card cores f ≡ made cores f
      all f =
          let in_cores = sums-equal (λ (c : Core U E). weigh f (all_names c.pool.home c.pool.n)) (core_weight (weight f) f) cores (λ k d lt.
          let p : PortView = an-element card.ports k (subst (λ n. k < n) (sym ready.order.count) lt) in
          fresh-weighs f (get_or card.ports k p) (get_or cores k d) (ready.keep k d lt) (fresh k p d lt)) in
          let posted = sums-none (posted_weight f) card.ports (λ k p lt. ap (buffers_weight f) (fresh-port k p lt).posts) in
          let kept = sums-none (kept_weight f) card.ports (λ k p lt. ap (maybe (λ (b : Buffer). f b.name)) (fresh-port k p lt).kept) in
          omega (arith, in_cores, posted, kept)

-- ## An epoch and a settle
module _ {U E : Type 0} (counted : Work → Bool) (name : Work → ℕ) (stepped : U → List (ℕ × ℕ)) (advanced : U → E → ℕ → List Work → U → Type 0) (drained : U → List Buffer → U → Type 0) (weight : (Name → ℕ) → U → ℕ) (owners : U → ℕ → Owned) where
  pub homes-stay : EpochsAreReady {U = U} {E = E} counted name stepped advanced drained → EpochsConserve {U = U} {E = E} counted name stepped advanced drained weight → SettlesAreReady U E
      → EpochsFill U E counted name stepped advanced drained weight → SettlesHold U E weight → HeldIsOwn U E weight
      → EpochsKeepOwn U E counted name stepped advanced drained → SettlesKeepOwn U E → BuffersStay
      → HomesStay U E counted name stepped advanced drained weight owners
  homes-stay epochs-ready conserve settles-ready fill settles-hold held-own epochs-own settles-own stay env feed feed' card report cores cores' after some home ran alone settles =
      settles-make-home drained weight owners settles-ready settles-hold held-own settles-own feed'.card card report cores' after ready ran.over.empty
      (λ c d lt. level drained (get_or cores' c d).desks ((conserve env feed feed' cores cores' whole_ home.ready ran).0 c d lt) (alone c d lt) (ran.over.rest c d lt).clean)
      (epochs-own env feed feed' cores cores' home.ready ready home.posted ran).own same settles
    where
      whole_ : (c : ℕ) (d : Core U E) → c < length cores → length (get_or cores c d).desks.groups ≡ 512
      whole_ c d lt = (home.level c d lt).size

      ready : IsReady feed'.card cores'
      ready = (epochs-ready env feed feed' cores cores' some home.ready ran).ready

      was-made : (f : Name → ℕ) → made cores' f ≡ made cores f
      was-made f = made-same cores cores' ran.cores.count (λ k d lt.
          let on : Ran counted name stepped advanced drained env (get_or cores k d) (get_or cores' k d) = (ran.cores.each k d lt).ran (ran.over.rest k d (subst (λ n. k < n) (sym ran.cores.count) lt)).found in
          (on.home, on.number)) f

      same : (f : BufId → ℕ) → held weight feed'.card cores' (λ x. f x.id) ≡ made cores' (λ x. f x.id)
      same f =
          let fills = fill env feed feed' cores cores' whole_ home.ready ran in
          stay fills.fills (held weight feed.card cores) (held weight feed'.card cores') fills.filled f ∙ home.same f ∙ sym (was-made (λ x. f x.id))
