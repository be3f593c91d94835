-- A settle behind some entries: it steps nothing and lets nothing wait.
use Rattle.std.proofs.Common.{◌≡◌, ℕ, suc, ◌+◌, ◌<◌, ◌≤◌, Bool, true, false, List, [], ◌∷◌, ◌++◌, map, length, refl, sym, ap, ◌∙◌, arith}
use Rattle.std.specs.Prelude.{◌==◌, ◌&&◌, if◌then◌else◌, nat_le, Option, Some, None}
use Rattle.std.proofs.lemmas.Bool.Decides.{nat_tests}
use Rattle.std.proofs.lemmas.List.{length-append, map-append}
use Rattle.ix_order.specs.Wire.{Entry, frame, time, tag, move, settle, Table}
use Rattle.ix_order.specs.Wire as wire
use Rattle.ix_order.specs.Steppers.{LastTag, moved_to, none_yet, no_move, last_tag_by, next_core, step_of, steps, stepper, tagged_by, tags_by, TagsAlternate}
use Rattle.ix_lines.specs.declared.types.EntryLine.{EntryLine}
use Rattle.ix_lines.specs.declared.types.EntryLine.TheVariants as lines
use Rattle.ix_fits.specs.Card.{entry_of}
use Rattle.ix_fits.specs.Cutting.{reach, tag_after, up_to}
use Rattle.ix_fits.specs.Owners.{is_accepted, waiting, waiting_from, waits}
use Rattle.ix_fits.specs.Stepping.{steps_named, with_cores}
use Rattle.ix_settled.proofs.Numbers.{tag_behind}
use Rattle.ix_settled.proofs.Settles.{reach-is}

pub alternate-left : (g : ℕ) (b : Bool) (xs ys : List Entry) → TagsAlternate g b (xs ++ ys) → TagsAlternate g b xs
alternate-left g b [] ys alternate = tt
alternate-left g b (x ∷ xs) ys alternate = (alternate.0, alternate-left g (tagged_by g b x) xs ys alternate.1)

-- ## Steps
next-still : (g : ℕ) (es : List Entry) → next_core g (es ++ settle ∷ []) ≡ next_core g es
next-still g [] = refl
next-still g (frame h v ∷ es) = next-still g es
next-still g (time ∷ es) = next-still g es
next-still g (tag h ∷ es) = next-still g es
next-still g (settle ∷ es) = next-still g es
next-still g (move h c ∷ es) = ap (λ (o : Option ℕ). if g == h then Some c else o) (next-still g es)

stepper-still : (g opening : ℕ) (s : LastTag) (es : List Entry) → stepper g opening s (es ++ settle ∷ []) ≡ stepper g opening s es
stepper-still g opening none_yet es = refl
stepper-still g opening no_move es = next-still g es
stepper-still g opening (moved_to d) es = refl

steps-still : (g opening k : ℕ) (s : LastTag) (w : ℕ) (es : List Entry) → steps g opening k s w (es ++ settle ∷ []) ≡ steps g opening k s w es
steps-still g opening k s w [] = refl
steps-still g opening k s w (e ∷ es) =
    ap (λ (o : Option ℕ). map (step_of k o) (wire.entry_of g w e) ++ steps g opening (tags_by g k e) (last_tag_by g s e) (suc w) (es ++ settle ∷ [])) (stepper-still g opening s es)
    ∙ ap (λ z. map (step_of k (stepper g opening s es)) (wire.entry_of g w e) ++ z) (steps-still g opening (tags_by g k e) (last_tag_by g s e) (suc w) es)

pub named-still : (g : ℕ) (t : Table) (done : List EntryLine) → steps_named g t (map entry_of (done ++ lines.Settle ∷ [])) ≡ steps_named g t (map entry_of done)
named-still g t done = ap (steps_named g t) (map-append entry_of done (lines.Settle ∷ [])) ∙ ap with_cores (steps-still g (t g).core 0 none_yet 0 (map entry_of done))

-- ## What waits
waiting-last : (g r w : ℕ) (done : List EntryLine) → waiting_from g r w (done ++ lines.Settle ∷ []) ≡ waiting_from g r w done
waiting-last g r w [] = refl
waiting-last g r w (l ∷ ls) = ap (λ z. (if waits g r w l then record { 0 = w } ∷ [] else []) ++ z) (waiting-last g r (suc w) ls)

not-yet : (r w : ℕ) → w < r → nat_le r w ≡ false
not-yet r w lt = grind (arith, nat_tests)

and-false : (b : Bool) → (b && false) ≡ false
and-false true = refl
and-false false = refl

none-wait : (g r w : ℕ) (ls : List EntryLine) → w + length ls ≤ r → waiting_from g r w ls ≡ []
none-wait g r w [] le = refl
none-wait g r w (l ∷ ls) le = by_line l ∙ none-wait g r (suc w) ls (omega (arith, le))
  where
    by_line : (l : EntryLine) → (if waits g r w l then record { 0 = w } ∷ [] else []) ++ waiting_from g r (suc w) ls ≡ waiting_from g r (suc w) ls
    by_line (lines.Frame rec at group ring fate) = rw (not-yet r w (omega (arith, le)), and-false ((group.0 == g) && is_accepted fate)) refl
    by_line (lines.Time t) = refl
    by_line (lines.Tag group) = refl
    by_line (lines.Move group to) = refl
    by_line lines.Settle = refl

pub waiting-still : (g : ℕ) (done : List EntryLine) → waiting done g ≡ waiting (done ++ lines.Settle ∷ []) g
waiting-still g done = by_tag (tag_behind g 0 None done) refl
  where
    here : reach g done ≡ up_to (length done) (tag_behind g 0 None done)
    here = reach-is g 0 (length done) None done (omega arith)

    size : length (done ++ lines.Settle ∷ []) ≡ suc (length done)
    size = let same = length-append done (lines.Settle ∷ []) in omega (arith, same)

    tag-still : (w : ℕ) (o : Option ℕ) (ls : List EntryLine) → tag_behind g w o (ls ++ lines.Settle ∷ []) ≡ tag_behind g w o ls
    tag-still w o [] = refl
    tag-still w o (l ∷ ls) = tag-still (suc w) (tag_after g w o l) ls

    there : reach g (done ++ lines.Settle ∷ []) ≡ up_to (suc (length done)) (tag_behind g 0 None done)
    there = reach-is g 0 (suc (length done)) None (done ++ lines.Settle ∷ []) (omega (arith, size)) ∙ ap (up_to (suc (length done))) (tag-still 0 None done)

    by_tag : (o : Option ℕ) → tag_behind g 0 None done ≡ o → waiting_from g (reach g done) 0 done ≡ waiting_from g (reach g (done ++ lines.Settle ∷ [])) 0 (done ++ lines.Settle ∷ [])
    by_tag (Some opened) e =
        let same : reach g done ≡ reach g (done ++ lines.Settle ∷ []) = here ∙ ap (up_to (length done)) e ∙ sym (there ∙ ap (up_to (suc (length done))) e) in
        ap (λ r. waiting_from g r 0 done) same ∙ sym (waiting-last g (reach g (done ++ lines.Settle ∷ [])) 0 done)
    by_tag None e =
        let first : reach g done ≡ length done = here ∙ ap (up_to (length done)) e in
        let second : reach g (done ++ lines.Settle ∷ []) ≡ suc (length done) = there ∙ ap (up_to (suc (length done))) e in
        none-wait g (reach g done) 0 done (omega (arith, first))
        ∙ sym (waiting-last g (reach g (done ++ lines.Settle ∷ [])) 0 done ∙ none-wait g (reach g (done ++ lines.Settle ∷ [])) 0 done (omega (arith, second)))
