-- The entries of a group, one by one.
use Rattle.std.proofs.Common.{◌≡◌, ℕ, suc, ◌+◌, ◌-◌, ◌<◌, ◌≤◌, refl, sym, ap, ◌∙◌, Bool, true, false, List, [], ◌∷◌, ◌++◌, length, map, take, drop, get_or, arith, add-one, append_assoc, append-nil, length-drop}
use Rattle.std.specs.Prelude.{if◌then◌else◌, ◌==◌, ◌&&◌, not, Option, Some, None}
use Rattle.std.proofs.lemmas.List.{drop_more, drop_all, take_all}
use Rattle.ix_base.specs.declared.id.CoreId.{CoreId}
use Rattle.ix_lines.specs.declared.types.EntryLine.{EntryLine}
use Rattle.ix_lines.specs.declared.types.EntryLine.TheVariants as lines
use Rattle.ix_order.specs.Steppers.{LastTag, last_tag_by, next_core, stepper, tagged_by, tags_by}
use Rattle.ix_playdef.specs.declared.wire.Given.{Given}
use Rattle.ix_fits.specs.Card.{entry_of}
use Rattle.ix_fits.specs.Cutting.{Due, Stage, due_of, dues_from, given_by, is_settle, stage_after}
use Rattle.ix_told.specs.Entries.{target_of}

-- ## Where the next move of a group goes
target-none : (g : ℕ) (x : EntryLine) (xs : List EntryLine) → target_of g x ≡ None → next_core g (map entry_of (x ∷ xs)) ≡ next_core g (map entry_of xs)
target-none g (lines.Frame rec at group ring fate) xs e = refl
target-none g (lines.Time t) xs e = refl
target-none g (lines.Tag group) xs e = refl
target-none g lines.Settle xs e = refl
target-none g (lines.Move group to) xs e = by_test (g == group.0) e
  where
    by_test : (b : Bool) → (if b then Some to else None) ≡ None → (if b then Some to.0 else next_core g (map entry_of xs)) ≡ next_core g (map entry_of xs)
    by_test true e = absurd (cc)
    by_test false e = refl

target-some : (g : ℕ) (x : EntryLine) (xs : List EntryLine) (c : CoreId) → target_of g x ≡ Some c → next_core g (map entry_of (x ∷ xs)) ≡ Some c.0
target-some g (lines.Frame rec at group ring fate) xs c e = absurd (cc)
target-some g (lines.Time t) xs c e = absurd (cc)
target-some g (lines.Tag group) xs c e = absurd (cc)
target-some g lines.Settle xs c e = absurd (cc)
target-some g (lines.Move group to) xs c e = by_test (g == group.0) e
  where
    by_test : (b : Bool) → (if b then Some to else None) ≡ Some c → (if b then Some to.0 else next_core g (map entry_of xs)) ≡ Some c.0
    by_test true e = let same : to ≡ c = cc in ap (λ (k : CoreId). (let o : Option ℕ = Some k.0 in o)) same
    by_test false e = absurd (cc)

pub target-next : (g : ℕ) (xs : List EntryLine) (i : ℕ) (d : EntryLine) → i < length xs → target_of g (get_or xs i d) ≡ None
    → next_core g (map entry_of (drop i xs)) ≡ next_core g (map entry_of (drop (i + 1) xs))
target-next g xs i d lt e = ap (λ ys. next_core g (map entry_of ys)) (drop_more xs i d lt) ∙ target-none g (get_or xs i d) (drop (i + 1) xs) e

pub target-here : (g : ℕ) (xs : List EntryLine) (i : ℕ) (d : EntryLine) (c : CoreId) → i < length xs → target_of g (get_or xs i d) ≡ Some c
    → next_core g (map entry_of (drop i xs)) ≡ Some c.0
target-here g xs i d c lt e = ap (λ ys. next_core g (map entry_of ys)) (drop_more xs i d lt) ∙ target-some g (get_or xs i d) (drop (i + 1) xs) c e

pub target-end : (g : ℕ) (xs : List EntryLine) (i : ℕ) → length xs ≤ i → next_core g (map entry_of (drop i xs)) ≡ None
target-end g xs i le = ap (λ ys. next_core g (map entry_of ys)) (drop_all i xs le)

pub ruleset for_targets = (target-next, target-here, target-end)

-- ## Stages
pub stage-made : (g : ℕ) (s : Stage) (l : EntryLine) (tags settles : ℕ) (last : LastTag) (open_tag : Bool)
    → tags ≡ tags_by g s.tags (entry_of l) → last ≡ last_tag_by g s.last (entry_of l) → open_tag ≡ tagged_by g s.open_tag (entry_of l)
    → settles ≡ (if is_settle l && not s.open_tag then suc s.settles else s.settles)
    → record { tags = tags; last = last; open_tag = open_tag; settles = settles } ≡ stage_after g s l
stage-made g s l tags settles last open_tag a b c d =
    ap (λ n. (let r : Stage = record { tags = n; last = last; open_tag = open_tag; settles = settles } in r)) a
    ∙ ap (λ x. (let r : Stage = record { tags = tags_by g s.tags (entry_of l); last = x; open_tag = open_tag; settles = settles } in r)) b
    ∙ ap (λ x. (let r : Stage = record { tags = tags_by g s.tags (entry_of l); last = last_tag_by g s.last (entry_of l); open_tag = x; settles = settles } in r)) c
    ∙ ap (λ n. (let r : Stage = record { tags = tags_by g s.tags (entry_of l); last = last_tag_by g s.last (entry_of l); open_tag = tagged_by g s.open_tag (entry_of l); settles = n } in r)) d

pub ruleset for_stages = (stage-made)

-- ## Entries behind entries
dues-cons : (frames : List (List ℕ)) (g o : ℕ) (s : Stage) (w : ℕ) (l : EntryLine) (ls : List EntryLine)
    → dues_from frames g o s w (l ∷ ls)
    ≡ map (due_of (stepper g o s.last (map entry_of (l ∷ ls))) s) (given_by frames g w l) ++ dues_from frames g o (stage_after g s l) (suc w) ls
unfolding dues_from
dues-cons frames g o s w l ls = refl

dues-nil : (frames : List (List ℕ)) (g o : ℕ) (s : Stage) (w : ℕ) → dues_from frames g o s w [] ≡ []
unfolding dues_from
dues-nil frames g o s w = refl

-- all from a place on
pub rest-is : (ls : List EntryLine) (from : ℕ) → take (length ls - from) (drop from ls) ≡ drop from ls
rest-is ls from = take_all (length ls - from) (drop from ls) (omega (arith, length-drop from ls))

-- one entry on
pub dues-next : (frames : List (List ℕ)) (g o w : ℕ) (s after : Stage) (ls : List EntryLine) (d : EntryLine) (done more : List Due) (given : List Given)
    → w < length ls → given ≡ given_by frames g w (get_or ls w d)
    → more ≡ done ++ map (due_of (stepper g o s.last (map entry_of (drop w ls))) s) given → after ≡ stage_after g s (get_or ls w d)
    → done ++ dues_from frames g o s w (drop w ls) ≡ more ++ dues_from frames g o after (w + 1) (drop (w + 1) ls)
dues-next frames g o w s after ls d done more given lt is put next =
    let x : EntryLine = get_or ls w d in
    let rest : List EntryLine = drop (w + 1) ls in
    let there : drop w ls ≡ x ∷ rest = drop_more ls w d lt in
    let core : Option ℕ = stepper g o s.last (map entry_of (drop w ls)) in
    ap (λ ys. done ++ dues_from frames g o s w ys) there
    ∙ ap (λ ds. done ++ ds) (dues-cons frames g o s w x rest)
    ∙ ap (λ (ys : List EntryLine). done ++ (map (due_of (stepper g o s.last (map entry_of ys)) s) (given_by frames g w x) ++ dues_from frames g o (stage_after g s x) (suc w) rest)) (sym there)
    ∙ ap (λ (gs : List Given). done ++ (map (due_of core s) gs ++ dues_from frames g o (stage_after g s x) (suc w) rest)) (sym is)
    ∙ sym (append_assoc done (map (due_of core s) given) (dues_from frames g o (stage_after g s x) (suc w) rest))
    ∙ ap (λ (ds : List Due). ds ++ dues_from frames g o (stage_after g s x) (suc w) rest) (sym put)
    ∙ ap (λ (t : Stage). more ++ dues_from frames g o t (suc w) rest) (sym next)
    ∙ ap (λ n. more ++ dues_from frames g o after n rest) (sym (add-one w))

pub dues-end : (frames : List (List ℕ)) (g o w : ℕ) (s : Stage) (ls : List EntryLine) (done : List Due) → length ls ≤ w → done ++ dues_from frames g o s w (drop w ls) ≡ done
dues-end frames g o w s ls done le =
    ap (λ ys. done ++ dues_from frames g o s w ys) (drop_all w ls le) ∙ ap (λ ds. done ++ ds) (dues-nil frames g o s w) ∙ append-nil done

pub ruleset for_dues = (dues-next, dues-end)
