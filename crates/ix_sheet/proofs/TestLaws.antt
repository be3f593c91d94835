-- A play that leaves one stray alone can be reported.
use Rattle.std.proofs.Common.{◌≡◌, ℕ, zero, suc, ◌+◌, ◌<◌, ◌≤◌, refl, sym, ap, ◌∙◌, subst, List, [], ◌∷◌, length, arith}
use Rattle.std.specs.Prelude.{All, Bool, true, false, cond, count_by, replicate, sum_by}
use Rattle.std.specs.List.{AllByRecursion}
use Rattle.std.proofs.lemmas.List.{length-replicate}
use Rattle.std.proofs.lemmas.List.Elements.{All-cons, All-nil, All-replicate}
use Rattle.std.proofs.lemmas.List.Sums.{sum_by-cons}
use Rattle.ix_groupdef.specs.declared.types.GroupRecord.{GroupRecord}
use Rattle.ix_groupdef.specs.declared.types.Stray.{Stray}
use Rattle.ix_lines.specs.declared.types.EntryLine.{EntryLine}
use Rattle.ix_playdef.specs.Replies.{CanAllBeWritten, FitsGroup, IsShortlyAnswered, IsWhole}
use Rattle.ix_trace.specs.Sheet.{IsFull, count_settles}
use Rattle.ix_sheet.specs.Outcome.{CanBeReported, HasGroup, NamesAll, NamesBuffers}
use Rattle.ix_sheet.specs.Strays.{all_strays_at, is_stray_at, strays_at}
use Rattle.ix_sheet.specs.declared.outcome.Outcome.{Outcome}
use Rattle.ix_sheet.proofs.Counts.{count-cons}

abbrev pub nothing : GroupRecord
nothing = record { strays = []; conns = [] }

-- ## What groups without connections leave
no-conns : (r : GroupRecord) → r.conns ≡ [] → All IsShortlyAnswered r.strays → FitsGroup r
no-conns r none short =
    record {
      told = record { written = subst (All CanAllBeWritten) (sym none) (All-nil CanAllBeWritten); whole = subst (All IsWhole) (sym none) (All-nil IsWhole) };
      strays = short;
    }

no-parts : (entries : List EntryLine) (r : GroupRecord) → r.conns ≡ [] → NamesAll entries r
no-parts entries r none = subst (All (NamesBuffers entries)) (sym none) (All-nil (NamesBuffers entries))

few-at : (w : ℕ) (ss : List Stray) → count_by (is_stray_at w) ss ≤ length ss
few-at w [] = omega arith
few-at w (s ∷ ss) = by_test (is_stray_at w s) (count-cons (is_stray_at w) s ss) (few-at w ss)
  where
    by_test : (b : Bool) → count_by (is_stray_at w) (s ∷ ss) ≡ cond b 1 0 + count_by (is_stray_at w) ss → count_by (is_stray_at w) ss ≤ length ss → count_by (is_stray_at w) (s ∷ ss) ≤ length (s ∷ ss)
    by_test true e h = omega (arith, e, h)
    by_test false e h = omega (arith, e, h)

none-at : (w n : ℕ) → sum_by (strays_at w) (replicate n nothing) ≡ 0
none-at w zero = refl
none-at w (suc n) = omega (arith, sum_by-cons (strays_at w) nothing (replicate n nothing), none-at w n)

pub one_stray : (o : Outcome) (first : GroupRecord) (cores n : ℕ) → n + 1 ≡ 512 → o.groups ≡ first ∷ replicate n nothing → length first.strays ≡ 1 → All IsShortlyAnswered first.strays → first.conns ≡ []
    → All HasGroup o.entries → length o.entries < 4294967296 → AllByRecursion (IsFull cores) o.settles → length o.settles ≡ count_settles o.entries + 1 → length o.closed ≡ cores
    → CanBeReported cores o
one_stray o first cores n many is one short none grouped few full count closed =
    record {
      groups = ap length is ∙ (let z : suc (length (replicate n nothing)) ≡ 512 = omega (arith, many, length-replicate n nothing) in z);
      fit = subst (All FitsGroup) (sym is) (All-cons FitsGroup first (replicate n nothing) (no-conns first none short) (All-replicate FitsGroup n nothing (no-conns nothing refl (All-nil IsShortlyAnswered))));
      named = subst (All (NamesAll o.entries)) (sym is)
          (All-cons (NamesAll o.entries) first (replicate n nothing) (no-parts o.entries first none) (All-replicate (NamesAll o.entries) n nothing (no-parts o.entries nothing refl)));
      apart = λ w.
          subst (λ (rs : List GroupRecord). all_strays_at w rs ≤ 1) (sym is)
          (omega (arith, sum_by-cons (strays_at w) first (replicate n nothing), none-at w n, few-at w first.strays, one));
      in_groups = grouped;
      few = few;
      full = full;
      count = count;
      closed = closed;
    }
