-- The workers as the card's side and its cores.
use Rattle.std.proofs.Common.{◌≡◌, ◌<◌, ℕ, zero, suc, Bool, true, false, List, [], ◌∷◌, ◌++◌, length, map, get_or, refl, sym, ap, subst, ◌∙◌, append_assoc, arith}
use Rattle.std.proofs.lemmas.List.{map-append}
use Rattle.ix_mbuf.specs.Buffers.{Buffer}
use Rattle.ix_stack.specs.declared.work.Work.{Work}
use Rattle.ix_feed.specs.declared.actor.Feed.{Feed}
use Rattle.ix_feed.specs.Turns.{FeedBecame}
use Rattle.ix_core.specs.declared.turning.Core.{Core}
use Rattle.ix_core.specs.Cores.{CoreBecame}
use Rattle.ix_epochs.specs.declared.worker.Worker.{Worker}
use Rattle.ix_epochs.specs.declared.worker.Worker.TheVariants as worker
use Rattle.ix_epochs.specs.Workers.{AllCores, CoresBecame, IsCrew, WorkerBecame, WorkersBecame, crew, is_core}

map_length : {X Y : Type 0} (f : X → Y) (xs : List X) → length (map f xs) ≡ length xs
map_length f [] = refl
map_length f (x ∷ xs) = ap suc (map_length f xs)

map_at : {X Y : Type 0} (f : X → Y) (xs : List X) (i : ℕ) (x : X) (y : Y) → i < length xs → get_or (map f xs) i y ≡ f (get_or xs i x)
map_at f [] i d e lt = absurd (omega arith)
map_at f (x ∷ xs) zero d e lt = refl
map_at f (x ∷ xs) (suc i) d e lt = map_at f xs i d e (omega arith)

module _ {U E : Type 0} where
  pub crew_more : (feed : Feed) (done more : List (Core U E)) (core : Core U E) (workers next : List (Worker U E)) → workers ≡ crew feed done → more ≡ done ++ core ∷ [] → next ≡ workers ++ worker.Core core ∷ []
      → next ≡ crew feed more
  crew_more feed done more core workers next so grown pushed =
      pushed ∙ ap (λ (l : List (Worker U E)). l ++ worker.Core core ∷ []) so
      ∙ ap (λ (l : List (Worker U E)). worker.Card feed ∷ l) (sym (map-append worker.Core done (core ∷ [])) ∙ ap (λ (l : List (Core U E)). map worker.Core l) (sym grown))

  pub cores_first : (x : Worker U E) (xs ys : List (Worker U E)) → xs ≡ x ∷ ys → AllCores xs → is_core x ≡ true
  cores_first x xs ys e all = let P : List (Worker U E) → Type 0 = AllCores in let h = subst P e all in h.0

  pub cores_tail : (x : Worker U E) (xs ys : List (Worker U E)) → xs ≡ x ∷ ys → AllCores xs → AllCores ys
  cores_tail x xs ys e all = let P : List (Worker U E) → Type 0 = AllCores in let h = subst P e all in h.1

  pub cores_more : (f x : Worker U E) (done more : List (Core U E)) (core : Core U E) (xs ys whole : List (Worker U E)) → f ∷ (map worker.Core done ++ xs) ≡ whole → xs ≡ x ∷ ys → x ≡ worker.Core core
      → more ≡ done ++ core ∷ [] → f ∷ (map worker.Core more ++ ys) ≡ whole
  cores_more f x done more core xs ys whole so read is grown =
      let pushed : map worker.Core more ≡ map worker.Core done ++ worker.Core core ∷ [] = ap (λ (l : List (Core U E)). map worker.Core l) grown ∙ map-append worker.Core done (core ∷ []) in
      let rest : xs ≡ worker.Core core ∷ ys = read ∙ ap (λ (w : Worker U E). w ∷ ys) is in
      ap (λ (l : List (Worker U E)). f ∷ l) (ap (λ (l : List (Worker U E)). l ++ ys) pushed ∙ append_assoc (map worker.Core done) (worker.Core core ∷ []) ys ∙ ap (λ (l : List (Worker U E)). map worker.Core done ++ l) (sym rest)) ∙ so

module _ {U E : Type 0} (counted : Work → Bool) (name : Work → ℕ) (stepped : U → List (ℕ × ℕ)) (advanced : U → E → ℕ → List Work → U → Type 0) (drained : U → List Buffer → U → Type 0) (env : E) where
  -- a worker stays the card's or a core's
  became_core : (x : Core U E) (y : Worker U E) → WorkerBecame counted name stepped advanced drained env (worker.Core x) y → is_core y ≡ true
  became_core x (worker.Core y) b = refl
  became_core x (worker.Card y) b = absurd b

  became_card : (x : Feed) (y : Worker U E) → WorkerBecame counted name stepped advanced drained env (worker.Card x) y → is_core y ≡ false
  became_card x (worker.Card y) b = refl
  became_card x (worker.Core y) b = absurd b

  cores_became : (cores : List (Core U E)) (ys : List (Worker U E)) → WorkersBecame counted name stepped advanced drained env (map worker.Core cores) ys → AllCores ys
  cores_became [] [] b = tt
  cores_became [] (y ∷ ys) b = absurd (omega (arith, b.count))
  cores_became (c ∷ cores) [] b = absurd (omega (arith, b.count))
  cores_became (c ∷ cores) (y ∷ ys) b = (
    became_core c y (b.each 0 y (omega arith)),
    cores_became cores ys (record { count = omega (arith, b.count); each = λ i d lt. b.each (suc i) d (omega arith) }),
  )

  crew_became : (feed : Feed) (cores : List (Core U E)) (ys : List (Worker U E)) → WorkersBecame counted name stepped advanced drained env (crew feed cores) ys → IsCrew ys
  crew_became feed cores [] b = absurd (omega (arith, b.count))
  crew_became feed cores (y ∷ ys) b = (
    became_card feed y (b.each 0 y (omega arith)),
    cores_became cores ys (record { count = omega (arith, b.count); each = λ i d lt. b.each (suc i) d (omega arith) }),
  )

  pub is_crew : (feed : Feed) (cores : List (Core U E)) (xs ys : List (Worker U E)) → xs ≡ crew feed cores → WorkersBecame counted name stepped advanced drained env xs ys → IsCrew ys
  is_crew feed cores xs ys e b = crew_became feed cores ys (subst (λ (l : List (Worker U E)). WorkersBecame counted name stepped advanced drained env l ys) e b)

  crews : (feed feed' : Feed) (cores cores' : List (Core U E)) (xs ys : List (Worker U E)) → xs ≡ crew feed cores → ys ≡ crew feed' cores' → WorkersBecame counted name stepped advanced drained env xs ys
      → WorkersBecame counted name stepped advanced drained env (crew feed cores) (crew feed' cores')
  crews feed feed' cores cores' xs ys e f b =
      subst (λ (l : List (Worker U E)). WorkersBecame counted name stepped advanced drained env (crew feed cores) l) f
      (subst (λ (l : List (Worker U E)). WorkersBecame counted name stepped advanced drained env l ys) e b)

  pub feed_of : (feed feed' : Feed) (cores cores' : List (Core U E)) (xs ys : List (Worker U E)) → xs ≡ crew feed cores → ys ≡ crew feed' cores' → WorkersBecame counted name stepped advanced drained env xs ys
      → FeedBecame feed feed'
  feed_of feed feed' cores cores' xs ys e f b = (crews feed feed' cores cores' xs ys e f b).each 0 (worker.Card feed) (omega arith)

  pub cores_of : (feed feed' : Feed) (cores cores' : List (Core U E)) (xs ys : List (Worker U E)) → xs ≡ crew feed cores → ys ≡ crew feed' cores' → WorkersBecame counted name stepped advanced drained env xs ys
      → CoresBecame counted name stepped advanced drained env cores cores'
  cores_of feed feed' cores cores' xs ys e f b = record { count = count; each = one } where
    so : WorkersBecame counted name stepped advanced drained env (crew feed cores) (crew feed' cores')
    so = crews feed feed' cores cores' xs ys e f b

    count : length cores' ≡ length cores
    count = omega (arith, so.count, map_length {Y = Worker U E} worker.Core cores, map_length {Y = Worker U E} worker.Core cores')

    one : (i : ℕ) (d : Core U E) → i < length cores → CoreBecame counted name stepped advanced drained env (get_or cores i d) (get_or cores' i d)
    one i d lt =
        let h = so.each (suc i) (worker.Core d) (omega (arith, map_length {Y = Worker U E} worker.Core cores)) in
        let x : get_or (map worker.Core cores) i (worker.Core d) ≡ worker.Core (get_or cores i d) = map_at worker.Core cores i d (worker.Core d) lt in
        let y : get_or (map worker.Core cores') i (worker.Core d) ≡ worker.Core (get_or cores' i d) = map_at worker.Core cores' i d (worker.Core d) (omega (arith, count)) in
        rw (x, y) at h
