-- The number that the reader answers is that of the first bad line.
use Rattle.std.proofs.Common.{◌≡◌, ℕ, ◌+◌, ◌<◌, List, [], ◌∷◌, ◌++◌, length, map, refl, ap, sym, ◌∙◌, subst, arith, append_assoc, Option, Some, None, Err}
use Rattle.std.specs.Prelude.{◌==◌}
use Rattle.std.specs.List.{AllByRecursion}
use Rattle.std.proofs.lemmas.List.{map-append}
use Rattle.std.proofs.lemmas.Bool.{cond_both, eqb-false}
use Rattle.ix_words.specs.Parts.{parts, push_front}
use Rattle.ix_words.specs.Fields.{◌>>=◌}
use Rattle.ix_lines.specs.declared.line.Line.{Line}
use Rattle.ix_trace.specs.declared.progress.Progress.{Progress}
use Rattle.ix_trace.specs.declared.progress.Progress.TheVariants as states
use Rattle.ix_trace.specs.Sheet.{sheet_lines}
use Rattle.ix_trace.specs.Machine.{step}
use Rattle.ix_lines.specs.Words.{Fits, line_text}
use Rattle.ix_lines.specs.Read.{line_read}
use Rattle.ix_trace.specs.Reading.{ended, then_lines, line_step, texts_read, trace_read}
use Rattle.ix_trace.specs.Rule.{IsPrefix, Stops, IsFirstBad}
use Rattle.ix_trace.proofs.Exact.{AreExact}
use Rattle.ix_trace.proofs.Live.{fit_append}
use Rattle.ix_trace.proofs.Rule.{Met, met_start, met_step, begins_met, stuck, ended_early, ended_number}

-- a state that is met behind these lines of bytes
record MetText (front : List (List ℕ)) (s : Progress) : Type 0 where
  ls : List Line
  are : map line_text ls ≡ front
  fit : AllByRecursion Fits ls
  met : Met ls s

prefix_met : (front : List (List ℕ)) (s : Progress) → MetText front s → IsPrefix front
prefix_met front s m =
    let b = begins_met m.ls s m.met in
    let w = b.whole in
    record {
      sheet = b.sheet;
      more = map line_text b.more;
      value = record { report = b.report; fits = subst (AllByRecursion Fits) (sym w) (fit_append m.ls b.more m.fit (b.fits m.fit)) };
      whole = ap (map line_text) w ∙ map-append line_text m.ls b.more ∙ ap (λ r. r ++ map line_text b.more) m.are;
    }

-- lists of lines with one text each are one, where the numbers fit
same_lines : AreExact → (xs ys : List Line) → AllByRecursion Fits xs → AllByRecursion Fits ys → map line_text xs ≡ map line_text ys → xs ≡ ys
same_lines exact [] [] f g e = refl
same_lines exact [] (y ∷ ys) f g e = absurd (cc)
same_lines exact (x ∷ xs) [] f g e = absurd (cc)
same_lines exact (x ∷ xs) (y ∷ ys) f g e =
    let h : line_text x ≡ line_text y = head_is (line_text x) (line_text y) _ _ e in
    let t = same_lines exact xs ys f.1 g.1 (tail_is (line_text x) (line_text y) _ _ e) in
    let a : line_read (line_text x) ≡ Some x = exact.again x f.0 in
    let b : line_read (line_text x) ≡ Some y = ap line_read h ∙ exact.again y g.0 in
    let k : x ≡ y = cc (a, b) in
    cc (k, t) where
      head_is : (x y : List ℕ) (xs ys : List (List ℕ)) → x ∷ xs ≡ y ∷ ys → x ≡ y
      head_is x y xs ys e = cc

      tail_is : (x y : List ℕ) (xs ys : List (List ℕ)) → x ∷ xs ≡ y ∷ ys → xs ≡ ys
      tail_is x y xs ys e = cc

-- the front of lines whose texts begin with these
record Cut (ls front : List Line) (x : List ℕ) : Type 0 where
  l : Line
  rest : List Line
  fit : Fits l
  whole : ls ≡ front ++ l ∷ rest
  text : line_text l ≡ x

cut : AreExact → (ls front : List Line) (x : List ℕ) (more : List (List ℕ)) → AllByRecursion Fits ls → AllByRecursion Fits front
    → map line_text ls ≡ map line_text front ++ x ∷ more → Cut ls front x
cut exact [] [] x more f g e = absurd (cc)
cut exact [] (y ∷ front) x more f g e = absurd (cc)
cut exact (l ∷ ls) [] x more f g e = record { l = l; rest = ls; fit = f.0; whole = refl; text = cc }
cut exact (l ∷ ls) (y ∷ front) x more f g e =
    let h : line_text l ≡ line_text y = heads (line_text l) (line_text y) _ _ e in
    let c = cut exact ls front x more f.1 g.1 (tails (line_text l) (line_text y) _ _ e) in
    let a : line_read (line_text l) ≡ Some l = exact.again l f.0 in
    let b : line_read (line_text l) ≡ Some y = ap line_read h ∙ exact.again y g.0 in
    let k : l ≡ y = cc (a, b) in
    let w = c.whole in
    record { l = c.l; rest = c.rest; fit = c.fit; whole = cc (k, w); text = c.text } where
      heads : (x y : List ℕ) (xs ys : List (List ℕ)) → x ∷ xs ≡ y ∷ ys → x ≡ y
      heads x y xs ys e = cc

      tails : (x y : List ℕ) (xs ys : List (List ℕ)) → x ∷ xs ≡ y ∷ ys → xs ≡ ys
      tails x y xs ys e = cc

-- a line that does not go on makes no prefix
stuck_text : AreExact → (front : List (List ℕ)) (s : Progress) (x : List ℕ) → MetText front s → line_step s x ≡ None → IsPrefix (front ++ x ∷ []) → ⊥
stuck_text exact front s x m e p =
    let whole : map line_text (sheet_lines p.sheet) ≡ map line_text m.ls ++ x ∷ p.more =
    p.whole ∙ append_assoc front (x ∷ []) p.more ∙ ap (λ r. r ++ x ∷ p.more) (sym m.are) in
    let c = cut exact (sheet_lines p.sheet) m.ls x p.more p.value.fits m.fit whole in
    let read : line_read x ≡ Some c.l = ap line_read (sym c.text) ∙ exact.again c.l c.fit in
    let none : step s c.l ≡ None = sym (ap (λ o. o >>= step s) read) ∙ e in
    let w = c.whole in
    stuck m.ls s c.l m.met none (record {
      sheet = p.sheet;
      more = c.rest;
      report = p.value.report;
      whole = w ∙ sym (append_assoc m.ls (c.l ∷ []) c.rest);
      fits = λ f. fit_tail (m.ls ++ c.l ∷ []) c.rest (subst (AllByRecursion Fits) (w ∙ sym (append_assoc m.ls (c.l ∷ []) c.rest)) p.value.fits);
    }) where
      fit_tail : (xs ys : List Line) → AllByRecursion Fits (xs ++ ys) → AllByRecursion Fits ys
      fit_tail [] ys f = f
      fit_tail (x ∷ xs) ys f = fit_tail xs ys f.1

parts_longer : (xs : List (List ℕ)) (x : List ℕ) → length (xs ++ x ∷ []) ≡ length xs + 1
parts_longer [] x = refl
parts_longer (y ∷ xs) x = let e = parts_longer xs x in omega (arith, e)

pub record Bad (all front : List (List ℕ)) (n : ℕ) : Type 0 where
  pub good : List (List ℕ)
  pub rest : List (List ℕ)
  pub whole : all ≡ good ++ rest
  pub number : n ≡ length good + 1
  pub begins : IsPrefix good
  pub bad : Stops good rest

text_fault : AreExact → (ps front : List (List ℕ)) (n m : ℕ) (s : Progress) → 0 < length ps → MetText front s → n ≡ length front → texts_read n s ps ≡ Err m → Bad (front ++ ps) front m
text_fault exact [] front n m s some met at e = absurd (omega arith)
text_fault exact (last ∷ []) front n m s some met at e =
    cond_both (length last == 0) (ended n s) (Err (n + 1)) (λ r. r ≡ Err m → Bad (front ++ last ∷ []) front m)
    (λ t f. record {
      good = front;
      rest = last ∷ [];
      whole = refl;
      number = ended_number s m n f ∙ ap (λ k. k + 1) at;
      begins = prefix_met front s met;
      bad = λ z r v is. ended_early met.ls s m n met.met f r v.report
          (same_lines exact (sheet_lines r) met.ls v.fits met.fit (is ∙ sym met.are));
    })
    (λ t f. record {
      good = front;
      rest = last ∷ [];
      whole = refl;
      number = (let k : n + 1 ≡ m = cc in omega arith);
      begins = prefix_met front s met;
      bad = λ z r v is. absurd (eqb-false (length last) 0 t (ap length z));
    })
    e
text_fault exact (x ∷ next ∷ rest) front n m s some met at e =
    by_line (line_read x) refl e (λ t w f. text_fault exact (next ∷ rest) (front ++ x ∷ []) (n + 1) m t (omega arith) w (let z = parts_longer front x in omega (arith, z)) f) where
      stop : line_step s x ≡ None → n + 1 ≡ m → Bad (front ++ x ∷ next ∷ rest) front m
      stop p k = record { good = front; rest = x ∷ next ∷ rest; whole = refl; number = omega arith; begins = prefix_met front s met; bad = stuck_text exact front s x met p }

      by_line : (o : Option Line) → line_read x ≡ o → then_lines n (λ t. texts_read (n + 1) t (next ∷ rest)) (o >>= step s) ≡ Err m
          → ((t : Progress) → MetText (front ++ x ∷ []) t → texts_read (n + 1) t (next ∷ rest) ≡ Err m → Bad ((front ++ x ∷ []) ++ next ∷ rest) (front ++ x ∷ []) m)
          → Bad (front ++ x ∷ next ∷ rest) front m
      by_line None p f more = stop (ap (λ o. o >>= step s) p) (cc)
      by_line (Some l) p f more = by_step (step s l) refl f where
        by_step : (o : Option Progress) → step s l ≡ o → then_lines n (λ t. texts_read (n + 1) t (next ∷ rest)) o ≡ Err m → Bad (front ++ x ∷ next ∷ rest) front m
        by_step None q g = stop (ap (λ o. o >>= step s) p ∙ q) (cc)
        by_step (Some t) q g =
            let k = exact.takes x l p in
            let b = more t (record {
              ls = met.ls ++ l ∷ [];
              are = map-append line_text met.ls (l ∷ []) ∙ ap (λ r. r ++ line_text l ∷ []) met.are ∙ ap (λ y. front ++ y ∷ []) (sym k.0);
              fit = fit_append met.ls (l ∷ []) met.fit (k.1, tt);
              met = met_step met.ls s t l met.met q;
            }) g in
            record { good = b.good; rest = b.rest; whole = sym (append_assoc front (x ∷ []) (next ∷ rest)) ∙ b.whole; number = b.number; begins = b.begins; bad = b.bad }

parts_some : (mark : ℕ) (bs : List ℕ) → 0 < length (parts mark bs)
parts_some mark [] = omega arith
parts_some mark (b ∷ bs) = cond_both (b == mark) _ _ (λ r. 0 < length r) (λ e. omega arith) (λ e. pushed b (parts mark bs)) where
  pushed : (b : ℕ) (ps : List (List ℕ)) → 0 < length (push_front b ps)
  pushed b [] = omega arith
  pushed b (p ∷ ps) = omega arith

-- the law
pub trace_fault : AreExact → (bytes : List ℕ) (n : ℕ) → trace_read bytes ≡ Err n → IsFirstBad bytes n
trace_fault exact bytes n e =
    let b = text_fault exact (parts 10 bytes) [] 0 n states.AtHead (parts_some 10 bytes) (record { ls = []; are = refl; fit = tt; met = met_start }) refl e in
    record { good = b.good; rest = b.rest; all = b.whole; number = b.number; begins = b.begins; bad = b.bad }
