-- Which of some frames are kept, and which are left.
use Rattle.std.specs.Prelude.{ℕ, Bool, ◌==◌, if◌then◌else◌, List, [], ◌∷◌, ◌++◌, map, sum_by}
use Rattle.ix_base.specs.declared.id.WireNo.{WireNo}
use Rattle.ix_mbuf.specs.Buffers.{Buffer}
use Rattle.ix_mbuf.specs.declared.name.Name.{Name}
use Rattle.ix_stack.specs.declared.work.Taken.{Taken}

abbrev pub has_number : WireNo → Taken → Bool
has_number n t = t.w.0 == n.0

-- the first frame with this number, and the others
abbrev pub first_with : WireNo → List Taken → List Taken
first_with n [] = []
first_with n (t ∷ ts) = if has_number n t then t ∷ [] else first_with n ts

abbrev pub without : WireNo → List Taken → List Taken
without n [] = []
without n (t ∷ ts) = if has_number n t then ts else t ∷ without n ts

-- for each number in turn the first frame that has it, and the frames that are left
abbrev pub kept_of : List WireNo → List Taken → List Taken
kept_of [] ts = []
kept_of (n ∷ ns) ts = first_with n ts ++ kept_of ns (without n ts)

abbrev pub left_of : List WireNo → List Taken → List Taken
left_of [] ts = ts
left_of (n ∷ ns) ts = left_of ns (without n ts)

abbrev pub buffers_of : List Taken → List Buffer
buffers_of ts = map (λ (t : Taken). t.buf) ts

-- the weights of the buffers of these frames, added up
abbrev pub frames_weight : (Name → ℕ) → List Taken → ℕ
frames_weight f ts = sum_by (λ (t : Taken). f t.buf.name) ts
