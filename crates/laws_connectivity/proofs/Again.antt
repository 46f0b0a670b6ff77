-- Written connectivity is read as what it was made of.
use Rattle.std.proofs.Common.{ℕ, ◌^◌, ◌<◌, ◌≤◌, Bool, true, false, List, length, if◌then◌else◌, arith}
use Rattle.std.specs.List.{All}
use Rattle.drc_base.specs.declared.limits.TheConstants.{MAX_FACES, MAX_POINTS, MAX_VALUES}
use Rattle.drc_bits.specs.Spells.{Spells}
use Rattle.corner_table.specs.declared.symbols.Symbol.{Symbol}
use Rattle.corner_table.specs.declared.symbols.Event.{Event}
use Rattle.laws_entropy.proofs.Again.{symbols-again, bits-again}
use Rattle.eb_trace.specs.declared.tracing.Traced.{Traced}
use Rattle.eb_trace.specs.Writable.{IsWritable}
use Rattle.eb_valence.specs.Contexts.{context_lists}
use Rattle.eb_section.specs.CodedBlocks.{IsSymbolBlock, AreCoded}
use Rattle.eb_section.proofs.WrittenBlocks.{short-lists}
use Rattle.eb_section.proofs.WrittenSection.{section-again}
use Rattle.seq_section.specs.Indices.{IsFaceBelow, faces_at, faces_bytes}
use Rattle.seq_section.specs.Packed.{symbols_of}
use Rattle.seq_section.proofs.Symbols.{length-symbols_of, Spells-packed}
use Rattle.seq_section.proofs.Written.{Spells-faces, Spells-section}
use Rattle.laws_connectivity.specs.Laws.{IndicesAreRead, ConnectivityIsRead}
use Rattle.laws_connectivity.proofs.SmallSymbols.{small-symbols}
use Rattle.laws_connectivity.proofs.SmallLists.{small-lists}

-- ---- indices

-- the faces behind the opening, packed or each by itself
faces-again : (packed : Bool) (faces : List (List ℕ)) (points : ℕ) → length faces ≤ MAX_FACES → points ≤ MAX_POINTS → All (IsFaceBelow points) faces
    → Spells (faces_at (record { faces = length faces; points = points; method = if packed then 0 else 1 })) (faces_bytes packed faces points) faces
faces-again true faces points few_faces few_points below =
    let few : length (symbols_of faces) ≤ MAX_VALUES = omega (arith, length-symbols_of points faces below, few_faces) in
    Spells-packed points faces below (symbols-again (symbols_of faces) 1 (omega arith) few (small-symbols points faces (omega (arith, few_points)) below))
faces-again false faces points few_faces few_points below = Spells-faces points faces below (omega (arith, few_points))

pub indices-again : IndicesAreRead
indices-again packed faces points few_faces few_points below =
    Spells-section packed faces points few_faces few_points (faces-again packed faces points few_faces few_points below)

-- ---- the section of a trace

contexts-coded : (symbols : List Symbol) (events : List Event) → length symbols ≤ MAX_FACES → All IsSymbolBlock (context_lists symbols events)
contexts-coded symbols events few = λ k d below. symbols-again _ 1 (omega arith) (omega (arith, short-lists symbols events k d below, few)) (small-lists symbols events k d below)

-- each block of the section is read as what it was made of
blocks-coded : (valence : Bool) (faces : ℕ) (t : Traced) (seams : List (List Bool)) → IsWritable faces t.vertices t.symbols t.events t.starts
    → faces ≤ MAX_FACES → All (λ bits. length bits < 2 ^ 31) seams → AreCoded valence t seams
blocks-coded valence faces t seams w few short =
    record {
      starts = bits-again t.starts (omega (arith, w.few_starts, w.few_symbols, few));
      seams = λ k d below. bits-again _ (short k d below);
      contexts = λ is. contexts-coded t.symbols t.events (omega (arith, w.few_symbols, few));
    }

pub connectivity-again : ConnectivityIsRead
connectivity-again valence faces t seams w few_faces few_vertices few_seams short =
    section-again valence faces t seams few_faces few_vertices few_seams w (blocks-coded valence faces t seams w few_faces short)
