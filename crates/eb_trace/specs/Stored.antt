-- How the walk of the code lies in its tables.
use Rattle.std.specs.Prelude.{◌≡◌, ℕ, ◌+◌, ◌*◌, ◌/◌, ◌%◌, ◌<◌, ◌≤◌, Bool, true, false, cond, eqb, List, length, get_or, set, map, reverse}
use Rattle.std.specs.Prelude.{Option, Some, None, All, vec_len}
use Rattle.drc_base.specs.declared.limits.TheConstants.{MAX_FACES}
use Rattle.corner_table.specs.declared.symbols.Symbol.{Symbol}
use Rattle.corner_table.specs.Sides.{Side, side_at, Gluing, IsGluing}
use Rattle.corner_table.specs.Table.{glued_in, free_entry}
use Rattle.corner_table.specs.Labels.{IsLabelled, label_at}
use Rattle.eb_trace.specs.declared.surface.Surface.{Surface}
use Rattle.eb_trace.specs.declared.marks.Marks.{Marks}
use Rattle.eb_trace.specs.declared.notes.Notes.{Notes}
use Rattle.eb_trace.specs.declared.notes.Entered.{Entered}
use Rattle.eb_trace.specs.Trace.{TracedEntry, TraceWalk, is_face_visited, split_of_face}
use Rattle.eb_machine.specs.Shown.{is_split}

-- the gluing of a surface
abbrev pub traced_gluing : Surface → Gluing
traced_gluing s = glued_in s.across.now

-- the tables of a surface: its gluing, and the labels of its vertices
pub record IsTracedSurface (s : Surface) : Type 0 where
  pub limit : s.faces ≤ MAX_FACES
  pub long : 3 * s.faces ≤ length s.across.now
  pub vertices : s.vertices ≡ vec_len s.ends
  pub gluing : IsGluing s.faces (glued_in s.across.now)
  pub labelled : IsLabelled s.faces (glued_in s.across.now) s.labels.items (vec_len s.ends) s.ends.items

-- an entry, as the walk has it
abbrev pub entry_of : Entered → TracedEntry
entry_of e = record { corner = side_at e.corner; symbol = e.symbol }

-- the walk that was noted: lists grow at their ends, and the walk has the last first
abbrev pub noted_walk : Notes → TraceWalk
noted_walk n = record {
  entries = map entry_of (reverse n.entries.items);
  interior = reverse n.interior.items;
  kept = map side_at (reverse n.kept.items);
  events = reverse n.events.items;
  bits = reverse n.bits.items;
}

-- the marks have room for each face and each vertex
pub record AreSized (s : Surface) (m : Marks) : Type 0 where
  pub faces : vec_len m.visited ≡ s.faces
  pub vertices : vec_len m.met ≡ vec_len s.ends
  pub splits : vec_len m.splits ≡ s.faces

-- the number of an S, as it is kept for a face
abbrev pub split_told : ℕ → Option ℕ
split_told v = cond (eqb v free_entry) None (Some v)

abbrev pub split_entry : ℕ → Symbol → ℕ
split_entry k s = cond (is_split s) k free_entry

-- faces are marked as a test says, and vertices that a marked face meets
pub record AreMarkedBy (faces : ℕ) (labels : List ℕ) (visited met : List Bool) (test : ℕ → Bool) : Type 0 where
  pub visited_is : (f : ℕ) → f < faces → get_or visited f false ≡ test f
  pub met_has : (d : Side) → d.face < faces → test d.face ≡ true → get_or met (label_at labels d) false ≡ true
  pub met_tells : (k : ℕ) → get_or met k false ≡ true → (d : Side) × (d.face < faces) × (test d.face ≡ true) × (label_at labels d ≡ k)

-- marks keep of a walk which faces are visited, and which of them have an S
pub record AreMarksOf (s : Surface) (m : Marks) (w : TraceWalk) : Type 0 where
  pub marked : AreMarkedBy s.faces s.labels.items m.visited.items m.met.items (is_face_visited w)
  pub splits : (f : ℕ) → f < s.faces → split_told (get_or m.splits.items f free_entry) ≡ split_of_face w.entries f

-- the vertices of a face become met
abbrev pub met_after : List ℕ → ℕ → List Bool → List Bool
met_after labels face met =
    set (set (set met (get_or labels (3 * face) free_entry) true) (get_or labels (3 * face + 1) free_entry) true)
    (get_or labels (3 * face + 2) free_entry) true

-- kept corners are of the surface's faces
abbrev pub NotesAreWithin : Surface → Notes → Type 0
NotesAreWithin s n = All (λ (k : ℕ). k < 3 * s.faces) n.kept.items

-- a walk as it is stored
pub record IsTraceStored (s : Surface) (m : Marks) (n : Notes) : Type 0 where
  pub sized : AreSized s m
  pub within : NotesAreWithin s n
  pub marks : AreMarksOf s m (noted_walk n)

-- an entry's face and turn
abbrev pub entered_row : Entered → ℕ × ℕ
entered_row e = (e.corner / 3, e.corner % 3)
