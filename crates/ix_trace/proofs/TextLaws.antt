-- The text of a report is read, and what is read is written so.
use Rattle.std.proofs.Common.{◌≡◌, ℕ, ◌+◌, List, [], ◌∷◌, ◌++◌, length, map, refl, ap, sym, ◌∙◌, subst, arith, append_assoc, Option, Some, None, Ok, Err}
use Rattle.std.specs.Prelude.{◌==◌}
use Rattle.std.specs.List.{AllByRecursion}
use Rattle.std.proofs.lemmas.List.{append-nil}
use Rattle.std.proofs.lemmas.Bool.{cond_both, eqb-true}
use Rattle.ix_words.specs.Parts.{parts, join}
use Rattle.ix_words.specs.Fields.{◌>>=◌}
use Rattle.ix_words.specs.PartLaws.{join-parts, parts-mark}
use Rattle.ix_lines.specs.declared.line.Line.{Line}
use Rattle.ix_trace.specs.declared.sheet.Sheet.{Sheet}
use Rattle.ix_trace.specs.declared.progress.Progress.{Progress}
use Rattle.ix_trace.specs.declared.progress.Progress.TheVariants as states
use Rattle.ix_trace.specs.Sheet.{sheet_lines, IsReport}
use Rattle.ix_trace.specs.Machine.{step}
use Rattle.ix_lines.specs.Words.{line_text, text_of, Fits}
use Rattle.ix_lines.specs.Read.{line_read}
use Rattle.ix_trace.specs.Reading.{ended, then_lines, line_step, texts_read, trace_read}
use Rattle.ix_trace.proofs.Exact.{AreExact}
use Rattle.ix_trace.proofs.Rule.{lines_read, lines_again, lines_found}

-- a text's parts
text_parts : AreExact → (ls : List Line) → AllByRecursion Fits ls → parts 10 (text_of ls) ≡ map line_text ls ++ [] ∷ []
text_parts exact [] h = refl
text_parts exact (l ∷ ls) h =
    ap (parts 10) (append_assoc (line_text l) (10 ∷ []) (text_of ls))
    ∙ parts-mark 10 (line_text l) (text_of ls) (exact.no_feed l h.0) ∙ ap (λ r. line_text l ∷ r) (text_parts exact ls h.1)

one_more : (n : ℕ) (s : Progress) (x : List ℕ) (ls : List Line)
    → texts_read n s (x ∷ (map line_text ls ++ [] ∷ [])) ≡ then_lines n (λ t. texts_read (n + 1) t (map line_text ls ++ [] ∷ [])) (line_step s x)
one_more n s x [] = refl
one_more n s x (l ∷ ls) = refl

texts_as_lines : AreExact → (ls : List Line) (n : ℕ) (s : Progress) → AllByRecursion Fits ls → texts_read n s (map line_text ls ++ [] ∷ []) ≡ lines_read n s ls
texts_as_lines exact [] n s h = refl
texts_as_lines exact (l ∷ ls) n s h =
    one_more n s (line_text l) ls
    ∙ ap (λ o. then_lines n (λ t. texts_read (n + 1) t (map line_text ls ++ [] ∷ [])) (o >>= step s)) (exact.again l h.0)
    ∙ by_step (step s l) (λ t. texts_as_lines exact ls (n + 1) t h.1) where
      by_step : (o : Option Progress) → ((t : Progress) → texts_read (n + 1) t (map line_text ls ++ [] ∷ []) ≡ lines_read (n + 1) t ls)
          → then_lines n (λ t. texts_read (n + 1) t (map line_text ls ++ [] ∷ [])) o ≡ then_lines n (λ t. lines_read (n + 1) t ls) o
      by_step None more = refl
      by_step (Some t) more = more t

-- the numbers of a report's lines fit their types
abbrev pub AllFit : Sheet → Type 0
AllFit s = AllByRecursion Fits (sheet_lines s)

-- what is written is read
pub trace_again : AreExact → (r : Sheet) → IsReport r → AllFit r → trace_read (text_of (sheet_lines r)) ≡ Ok r
trace_again exact r ok fit = ap (texts_read 0 states.AtHead) (text_parts exact (sheet_lines r) fit) ∙ texts_as_lines exact (sheet_lines r) 0 states.AtHead fit ∙ lines_again r ok

-- two reports never have one text
pub one_text : AreExact → (r s : Sheet) → IsReport r → AllFit r → IsReport s → AllFit s → text_of (sheet_lines r) ≡ text_of (sheet_lines s) → r ≡ s
one_text exact r s p f q g e =
    let a = trace_again exact r p f in
    let b : trace_read (text_of (sheet_lines r)) ≡ Ok s = ap trace_read e ∙ trace_again exact s q g in
    cc (a, b)

-- the lines that parts are
pub record AreLines (ps : List (List ℕ)) (n : ℕ) (s : Progress) (r : Sheet) : Type 0 where
  pub ls : List Line
  pub parts_are : ps ≡ map line_text ls ++ [] ∷ []
  pub fit : AllByRecursion Fits ls
  pub read : lines_read n s ls ≡ Ok r

texts_found : AreExact → (ps : List (List ℕ)) (n : ℕ) (s : Progress) (r : Sheet) → texts_read n s ps ≡ Ok r → AreLines ps n s r
texts_found exact [] n s r e = absurd (cc)
texts_found exact (last ∷ []) n s r e =
    cond_both (length last == 0) (ended n s) (Err (n + 1)) (λ x. x ≡ Ok r → AreLines (last ∷ []) n s r)
    (λ t f. record { ls = []; parts_are = ap (λ x. x ∷ []) (nothing last (eqb-true (length last) 0 t)); fit = tt; read = f })
    (λ t f. absurd (cc)) e where
      nothing : (x : List ℕ) → length x ≡ 0 → x ≡ []
      nothing [] h = refl
      nothing (y ∷ x) h = absurd (omega arith)
texts_found exact (line ∷ next ∷ rest) n s r e = by_line (line_read line) refl e (λ t. texts_found exact (next ∷ rest) (n + 1) t r) where
  by_line : (o : Option Line) → line_read line ≡ o → then_lines n (λ t. texts_read (n + 1) t (next ∷ rest)) (o >>= step s) ≡ Ok r
      → ((t : Progress) → texts_read (n + 1) t (next ∷ rest) ≡ Ok r → AreLines (next ∷ rest) (n + 1) t r) → AreLines (line ∷ next ∷ rest) n s r
  by_line None p f more = absurd (cc)
  by_line (Some l) p f more = by_step (step s l) refl f where
    by_step : (o : Option Progress) → step s l ≡ o → then_lines n (λ t. texts_read (n + 1) t (next ∷ rest)) o ≡ Ok r → AreLines (line ∷ next ∷ rest) n s r
    by_step None q g = absurd (cc)
    by_step (Some t) q g =
        let a = more t g in
        let k = exact.takes line l p in
        record {
          ls = l ∷ a.ls;
          parts_are = (let u = k.0 in let v = a.parts_are in cc (u, v));
          fit = (k.1, a.fit);
          read = ap (then_lines n (λ t. lines_read (n + 1) t a.ls)) q ∙ a.read;
        }

join_text : (ls : List Line) → join 10 (map line_text ls ++ [] ∷ []) ≡ text_of ls
join_text [] = refl
join_text (l ∷ []) = sym (append-nil (line_text l ++ 10 ∷ []))
join_text (l ∷ k ∷ ls) = ap (λ r. line_text l ++ 10 ∷ r) (join_text (k ∷ ls)) ∙ sym (append_assoc (line_text l) (10 ∷ []) (text_of (k ∷ ls)))

-- what is read is written so
pub trace_found : AreExact → (bytes : List ℕ) (r : Sheet) → trace_read bytes ≡ Ok r → IsReport r × AllFit r × (bytes ≡ text_of (sheet_lines r))
trace_found exact bytes r e =
    let a = texts_found exact (parts 10 bytes) 0 states.AtHead r e in
    let f = lines_found a.ls r a.read in (
      f.0,
      subst (AllByRecursion Fits) (sym f.1) a.fit,
      sym (join-parts 10 bytes) ∙ ap (join 10) a.parts_are ∙ join_text a.ls ∙ ap text_of (sym f.1),
    )
