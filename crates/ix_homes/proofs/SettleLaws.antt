-- What a settle makes of what is held.
use Rattle.std.proofs.Common.{◌≡◌, ◌+◌, ◌<◌, ℕ, suc, List, [], ◌∷◌, ◌++◌, length, get_or, sum_by, refl, sym, ap, subst, ◌∙◌, arith}
use Rattle.std.specs.Prelude.{Option, if◌then◌else◌}
use Rattle.std.proofs.lemmas.List.{get_or_default}
use Rattle.std.proofs.lemmas.List.Sums.{sum_by-cons}
use Rattle.ix_mbuf.specs.declared.name.Name.{Name}
use Rattle.ix_mbuf.specs.Buffers.{Buffer, buffers_weight}
use Rattle.ix_mbuf.specs.Owners.{maybe, one_if, same_id}
use Rattle.ix_desk.specs.Pieces.{joined}
use Rattle.ix_ring.specs.Ends.{known}
use Rattle.ix_nic.specs.Ports.{PortView}
use Rattle.ix_core.specs.declared.link.Link.{Link}
use Rattle.ix_core.specs.declared.turning.Core.{Core}
use Rattle.ix_core.specs.Homing.{core_returns, link_returns, stock_weight}
use Rattle.ix_core.specs.Renewing.{free_weight}
use Rattle.ix_core.specs.Weights.{core_weight, desks_weight, link_weight}
use Rattle.ix_epochs.specs.Ready.{SettlesAreReady}
use Rattle.ix_epochs.specs.Rest.{KeepsNothing, LinksRest, NothingComes, NothingIsOnRings}
use Rattle.ix_homes.specs.Held.{HeldIsOwn, SettlesHold, kept_weight}
use Rattle.ix_homes.proofs.Sums.{joined-weighs, sums-equal, sums-same, sums-split}

-- some element of a list that isn't empty
any_of : {X : Type 0} (xs : List X) (k : ℕ) → k < length xs → X
any_of [] k lt = absurd (omega (arith, lt))
any_of (x ∷ xs) k lt = x

-- ## The card's side
ports-keep : (f : Name → ℕ) (ps qs : List PortView) → length qs ≡ length ps → ((k : ℕ) (d : PortView) → k < length ps → (get_or qs k d).kept ≡ (get_or ps k d).kept)
    → sum_by (kept_weight f) qs ≡ sum_by (kept_weight f) ps
ports-keep f ps qs len same = sums-same (kept_weight f) (kept_weight f) ps qs len (λ k d e lt. one k d e lt) where
  one : (k : ℕ) (d e : PortView) → k < length ps → kept_weight f (get_or qs k e) ≡ kept_weight f (get_or ps k d)
  one k d e lt = ap (λ (b : Option Buffer). maybe (λ (x : Buffer). f x.name) b) (same k e lt) ∙ ap (kept_weight f) (get_or_default ps k e d lt)

module _ {U E : Type 0} where
  -- ## A core that keeps nothing
  links-weigh-none : (w : U → ℕ) (f : Name → ℕ) (ls : List (Link U E)) → LinksRest ls → sum_by (link_weight w f) ls ≡ 0
  links-weigh-none w f [] rests = refl
  links-weigh-none w f (l ∷ ls) rests =
      let first : link_weight w f l ≡ 0 = rw ((rests 0 l (omega arith)).ships, (rests 0 l (omega arith)).waits) refl in
      omega (arith, first, links-weigh-none w f ls (λ p e lt. rests (suc p) e (omega (arith, lt))), sum_by-cons (link_weight w f) l ls)

  rest-weighs : (w : U → ℕ) (f : Name → ℕ) (c : Core U E) → KeepsNothing c → core_weight w f c ≡ stock_weight f c + desks_weight w f c.desks
  rest-weighs w f c keeps = rw (keeps.came, keeps.lost) (omega (arith, links-weigh-none w f c.links.items keeps.links))

  pub cores-split : (w : U → ℕ) (f : Name → ℕ) (cores : List (Core U E)) → ((c : ℕ) (d : Core U E) → c < length cores → KeepsNothing (get_or cores c d))
      → sum_by (core_weight w f) cores ≡ sum_by (stock_weight f) cores + sum_by (λ c. desks_weight w f c.desks) cores
  cores-split w f cores keeps = sums-split (core_weight w f) (stock_weight f) (λ c. desks_weight w f c.desks) cores (λ k d lt. rest-weighs w f (get_or cores k d) (keeps k d lt))

  -- ## What returns
  no-link-returns : (ls : List (Link U E)) → LinksRest ls → ((p : ℕ) (e : Link U E) → p < length ls → known (get_or ls p e).take ≡ []) → joined link_returns ls ≡ []
  no-link-returns [] rests none = refl
  no-link-returns (l ∷ ls) rests none =
      let first : link_returns l ≡ [] = rw (none 0 l (omega arith), (rests 0 l (omega arith)).waits) refl in
      rw (first, no-link-returns ls (λ p e lt. rests (suc p) e (omega (arith, lt))) (λ p e lt. none (suc p) e (omega (arith, lt)))) refl

  core-returns : (c : Core U E) → KeepsNothing c → NothingComes c → core_returns c ≡ c.returns.items
  core-returns c keeps none = ap (λ (bufs : List Buffer). bufs ++ c.returns.items) (no-link-returns c.links.items keeps.links none.links)

  all-return : (f : Name → ℕ) (cores : List (Core U E)) → ((c : ℕ) (d : Core U E) → c < length cores → KeepsNothing (get_or cores c d)) → NothingIsOnRings cores
      → buffers_weight f (joined core_returns cores) ≡ sum_by (λ c. buffers_weight f c.returns.items) cores
  all-return f cores keeps none =
      joined-weighs f core_returns cores
      ∙ sums-equal (λ c. buffers_weight f c.returns.items) (λ c. buffers_weight f (core_returns c)) cores
      (λ k d lt. ap (buffers_weight f) (core-returns (get_or cores k d) (keeps k d lt) (none k d lt)))

  stock-split : (f : Name → ℕ) (cores : List (Core U E)) → sum_by (stock_weight f) cores ≡ sum_by (free_weight f) cores + sum_by (λ c. buffers_weight f c.returns.items) cores
  stock-split f cores = sums-split (stock_weight f) (free_weight f) (λ c. buffers_weight f c.returns.items) cores (λ k d lt. refl)

  desks-stay : (w : U → ℕ) (f : Name → ℕ) (xs ys : List (Core U E)) → length ys ≡ length xs → ((k : ℕ) (d : Core U E) → k < length xs → (get_or ys k d).desks ≡ (get_or xs k d).desks)
      → sum_by (λ c. desks_weight w f c.desks) ys ≡ sum_by (λ c. desks_weight w f c.desks) xs
  desks-stay w f xs ys len same = sums-same (λ c. desks_weight w f c.desks) (λ c. desks_weight w f c.desks) xs ys len (λ k d e lt. one k d e lt) where
    one : (k : ℕ) (d e : Core U E) → k < length xs → desks_weight w f (get_or ys k e).desks ≡ desks_weight w f (get_or xs k d).desks
    one k d e lt = ap (desks_weight w f) (same k e lt) ∙ ap (λ (c : Core U E). desks_weight w f c.desks) (get_or_default xs k e d lt)

module _ {U E : Type 0} (weight : (Name → ℕ) → U → ℕ) where
  pub settles-hold : SettlesAreReady U E → SettlesHold U E weight
  settles-hold ready owners report card card' cores cores' was none settles f =
      let is = ready owners report card card' cores cores' was settles in
      let len : length card.ports ≡ length cores = was.order.count in
      omega (
        arith,
        settles.weight f,
        all-return f cores was.keep none,
        stock-split f cores,
        cores-split (weight f) f cores was.keep,
        cores-split (weight f) f cores' is.keep,
        desks-stay (weight f) f cores cores' settles.count (λ k d lt. ap (λ (c : Core U E). c.desks) (settles.each k (any_of card.ports k (subst (λ n. k < n) (sym len) lt)) d lt).core_rest),
        ports-keep f card.ports card'.ports settles.ports (λ k d lt. ap (λ (p : PortView). p.kept) (settles.each k d (any_of cores k (subst (λ n. k < n) len lt)) (subst (λ n. k < n) len lt)).port_rest),
      )

  pub held-is-own : HeldIsOwn U E weight
  held-is-own card cores ready none same x =
      omega (
        arith,
        same (λ i. if same_id x i then 1 else 0),
        all-return (one_if x) cores ready.keep none,
        stock-split (one_if x) cores,
        cores-split (weight (one_if x)) (one_if x) cores ready.keep,
      )
