-- What is left behind blocks of bits and of symbols, and behind connectivity, is bytes, where a stream is.
use Rattle.drc_base.specs.Profile.{Profile}
use Rattle.std.proofs.Common.{ℕ, zero, suc, ◌+◌, ◌-◌, ◌*◌, ◌^◌, ◌%◌, ◌/◌, ◌==◌, ◌&&◌, ◌||◌, Bool, List, [], ◌∷◌, Option, None, Some, sum}
use Rattle.std.specs.Prelude.{nat_lt, nat_le}
use Rattle.drc_base.specs.declared.kinds.Kind.TheVariants as kind
use Rattle.drc_base.specs.declared.limits.TheConstants.{MAX_ATTRIBUTES, MAX_TABLE_SYMBOLS}
use Rattle.drc_bits.specs.Reading.{Reading, advanced, must, many_at, chain_at, bytes_at}
use Rattle.drc_bits.specs.Bits.{bits_at, bits_of, bytes_for}
use Rattle.drc_bits.specs.Numbers.{number_at, little_endian}
use Rattle.drc_bits.specs.Varint.{var32_at, var64_at}
use Rattle.corner_table.specs.declared.symbols.Event.{Event}
use Rattle.rans_core.specs.Coder.{CoderState, started}
use Rattle.rans_binary.specs.Blocks.{block_from, bit_block_at}
use Rattle.symbol_tables.specs.Tables.{long_at, prob_at, probs_at, count_at, table_at}
use Rattle.symbol_coding.specs.Symbols.{coded_from, coded_at, next_symbols}
use Rattle.symbol_coding.specs.Block.{precision, raw_at, values_in_groups, next_widths, tagged_at, block_at}
use Rattle.seq_section.specs.Packed.{faces_meant}
use Rattle.seq_section.specs.Indices.{method_at, indices_opening_at, index_width, number_of_width, index_at, face_at, packed_at, faces_at, indices_at}
use Rattle.eb_valence.specs.declared.context_lists.TheConstants.{CONTEXTS}
use Rattle.eb_section.specs.Opening.{traversal_at, opening_at}
use Rattle.eb_section.specs.Events.{numbers_at, no_numbers, event_count_at, events_at}
use Rattle.eb_section.specs.Connectivity.{standard_at, list_at, standard_behind, valence_behind, behind_at, connectivity_at}
use Rattle.laws_stream.proofs.reading.Bytes.{BytesAhead, LeavesBytes, ok-leaves, fault-leaves, then-leaves, value-leaves, either-leaves, must-leaves, many-bytes, chain-bytes, further, bytes-leave, bits-leave, number-leaves, var32-leaves, var64-leaves}

-- ---- bits

block-from-leaves : (none : ℕ) (begin end : Reading) → BytesAhead end → (o : Option CoderState) → LeavesBytes (block_from none begin end o)
block-from-leaves none begin end here (Some s) = ok-leaves (record { ones = 256 - none; state = s }) end here
block-from-leaves none begin end here None = fault-leaves kind.BadStart begin

pub bit_block-leaves : (c : Reading) → BytesAhead c → LeavesBytes (bit_block_at c)
unfolding bit_block_at
bit_block-leaves c here =
    then-leaves (must kind.BadProb (λ n. nat_lt 0 n) (number_at 1) c) _ (must-leaves kind.BadProb (λ n. nat_lt 0 n) (number_at 1) c (number-leaves 1 c here)) (λ a ha.
    then-leaves (var32_at a.1) _ (var32-leaves a.1 ha) (λ b hb.
    then-leaves (bytes_at b.0 b.1) _ (bytes-leave b.0 b.1 hb) (λ d hd.
    block-from-leaves a.0 b.1 d.1 hd (started 3 4096 d.0))))

-- ---- symbols

long-leaves : (low more : ℕ) (c : Reading) → BytesAhead c → LeavesBytes (long_at low more c)
long-leaves low more c here =
    then-leaves (many_at (number_at 1) more c) _ (many-bytes (number_at 1) (number-leaves 1) more c here) (λ x hx. ok-leaves (low + 64 * little_endian x.0, 0) x.1 hx)

prob-leaves : (behind run : ℕ) (c : Reading) → BytesAhead c → LeavesBytes (prob_at behind run c)
prob-leaves behind (suc run) c here = ok-leaves (0, run) c here
prob-leaves behind zero c here =
    then-leaves (number_at 1 c) _ (number-leaves 1 c here) (λ b hb.
    either-leaves (b.0 % 4 == 3) _ _
    (either-leaves (nat_le (b.0 / 4) behind) _ _ (ok-leaves (0, b.0 / 4) b.1 hb) (fault-leaves kind.Run c))
    (long-leaves (b.0 / 4) (b.0 % 4) b.1 hb))

probs-leave : (n run : ℕ) (c : Reading) → BytesAhead c → LeavesBytes (probs_at n run c)
unfolding probs_at
probs-leave zero run c here = ok-leaves [] c here
probs-leave (suc behind) run c here =
    then-leaves (prob_at behind run c) _ (prob-leaves behind run c here) (λ x hx.
    then-leaves (probs_at behind x.0.1 x.1) _ (probs-leave behind x.0.1 x.1 hx) (λ xs hxs. ok-leaves (x.0.0 ∷ xs.0) xs.1 hxs))

count-leaves : (c : Reading) → BytesAhead c → LeavesBytes (count_at c)
count-leaves c here =
    must-leaves kind.EmptyTable (λ n. nat_lt 0 n) (must kind.TableLimit (λ n. nat_le n MAX_TABLE_SYMBOLS) var32_at) c
    (must-leaves kind.TableLimit (λ n. nat_le n MAX_TABLE_SYMBOLS) var32_at c (var32-leaves c here))

table-leaves : (bits : ℕ) (c : Reading) → BytesAhead c → LeavesBytes (table_at bits c)
unfolding table_at
table-leaves bits c here =
    then-leaves (count_at c) _ (count-leaves c here) (λ a ha.
    then-leaves (probs_at a.0 0 a.1) _ (probs-leave a.0 0 a.1 ha) (λ b hb.
    either-leaves (sum b.0 == 2 ^ bits) _ _ (ok-leaves b.0 b.1 hb) (fault-leaves kind.Sum c)))

coded-from-leaves : (first end : Reading) → BytesAhead end → (o : Option CoderState) → LeavesBytes (coded_from first end o)
coded-from-leaves first end here (Some s) = ok-leaves (record { place = first.place; state = s }) end here
coded-from-leaves first end here None = fault-leaves kind.BadStart first

coded-leaves : (bits : ℕ) (c : Reading) → BytesAhead c → LeavesBytes (coded_at bits c)
unfolding coded_at
coded-leaves bits c here =
    then-leaves (var64_at c) _ (var64-leaves c here) (λ a ha.
    then-leaves (bytes_at a.0 a.1) _ (bytes-leave a.0 a.1 ha) (λ b hb.
    coded-from-leaves a.1 b.1 hb (started 4 (4 * 2 ^ bits) b.0)))

raw-leaves : (n : ℕ) (c : Reading) → BytesAhead c → LeavesBytes (raw_at n c)
unfolding raw_at
raw-leaves n c here =
    let few : ℕ → Bool = λ l. nat_le 1 l && nat_le l 18 in
    then-leaves (must kind.Length few (number_at 1) c) _ (must-leaves kind.Length few (number_at 1) c (number-leaves 1 c here)) (λ a ha.
    then-leaves (table_at (precision a.0) a.1) _ (table-leaves (precision a.0) a.1 ha) (λ b hb.
    then-leaves (coded_at (precision a.0) b.1) _ (coded-leaves (precision a.0) b.1 hb) (λ d hd.
    ok-leaves (next_symbols n (precision a.0) b.0 d.0.state) d.1 hd)))

tagged-leaves : (groups comps : ℕ) (c : Reading) → BytesAhead c → LeavesBytes (tagged_at groups comps c)
unfolding tagged_at
tagged-leaves groups comps c here =
    then-leaves (table_at (precision 5) c) _ (table-leaves (precision 5) c here) (λ a ha.
    then-leaves (coded_at (precision 5) a.1) _ (coded-leaves (precision 5) a.1 ha) (λ b hb.
    let widths = next_widths groups comps a.0 b.0.state in
    value-leaves (values_in_groups b.0.place b.1.place widths (bits_of b.1.rest)) _ (λ values.
    ok-leaves values (advanced (bytes_for (sum widths)) b.1) (further (bytes_for (sum widths)) b.1 hb))))

pub block-leaves : (n comps : ℕ) (c : Reading) → BytesAhead c → LeavesBytes (block_at n comps c)
unfolding block_at
block-leaves n comps c here =
    either-leaves (n == 0) _ _ (ok-leaves [] c here)
    (then-leaves (must kind.Scheme (λ s. nat_lt s 2) (number_at 1) c) _ (must-leaves kind.Scheme (λ s. nat_lt s 2) (number_at 1) c (number-leaves 1 c here)) (λ a ha.
    either-leaves (a.0 == 0) _ _ (tagged-leaves (n / comps) comps a.1 ha) (raw-leaves n a.1 ha)))

-- ---- sequential connectivity

width-leaves : (width : Option ℕ) (c : Reading) → BytesAhead c → LeavesBytes (number_of_width width c)
width-leaves None c here = var32-leaves c here
width-leaves (Some n) c here = number-leaves n c here

index-leaves : (points : ℕ) (c : Reading) → BytesAhead c → LeavesBytes (index_at points c)
index-leaves points c here = must-leaves kind.IndexRange (λ i. nat_lt i points) (number_of_width (index_width points)) c (width-leaves (index_width points) c here)

face-leaves : (points : ℕ) (c : Reading) → BytesAhead c → LeavesBytes (face_at points c)
unfolding face_at
face-leaves points c here =
    then-leaves (index_at points c) _ (index-leaves points c here) (λ a ha.
    then-leaves (index_at points a.1) _ (index-leaves points a.1 ha) (λ b hb.
    then-leaves (index_at points b.1) _ (index-leaves points b.1 hb) (λ d hd. ok-leaves (a.0 ∷ b.0 ∷ d.0 ∷ []) d.1 hd)))

packed-leaves : (points faces : ℕ) (c : Reading) → BytesAhead c → LeavesBytes (packed_at points faces c)
unfolding packed_at
packed-leaves points faces c here =
    then-leaves (block_at (3 * faces) 1 c) _ (block-leaves (3 * faces) 1 c here) (λ a ha.
    value-leaves (faces_meant (record { kind = kind.IndexRange; at = c.place }) points a.0) _ (λ corners. ok-leaves corners a.1 ha))

opening-leaves : (p : Profile) (c : Reading) → BytesAhead c → LeavesBytes (indices_opening_at p c)
unfolding indices_opening_at
opening-leaves p c here =
    then-leaves (must kind.FaceLimit (λ n. nat_le n p.faces) var32_at c) _ (must-leaves kind.FaceLimit (λ n. nat_le n p.faces) var32_at c (var32-leaves c here)) (λ a ha.
    then-leaves (must kind.PointLimit (λ n. nat_le n p.points) var32_at a.1) _ (must-leaves kind.PointLimit (λ n. nat_le n p.points) var32_at a.1 (var32-leaves a.1 ha)) (λ b hb.
    then-leaves (method_at b.1) _ (must-leaves kind.IndexMethod (λ n. nat_le n 1) (number_at 1) b.1 (number-leaves 1 b.1 hb)) (λ d hd. ok-leaves _ d.1 hd)))

pub indices-leave : (p : Profile) (c : Reading) → BytesAhead c → LeavesBytes (indices_at p c)
unfolding indices_at
indices-leave p c here =
    then-leaves (indices_opening_at p c) _ (opening-leaves p c here) (λ a ha.
    then-leaves (faces_at a.0 a.1) _
    (either-leaves (a.0.method == 0) _ _ (packed-leaves a.0.points a.0.faces a.1 ha)
    (many-bytes (face_at a.0.points) (face-leaves a.0.points) a.0.faces a.1 ha))
    (λ b hb. ok-leaves _ b.1 hb))

-- ---- Edgebreaker connectivity

edgebreaker-opening-leaves : (p : Profile) (c : Reading) → BytesAhead c → LeavesBytes (opening_at p c)
unfolding opening_at
edgebreaker-opening-leaves p c here =
    then-leaves (traversal_at c) _ (must-leaves kind.Traversal (λ t. t == 0 || t == 2) (number_at 1) c (number-leaves 1 c here)) (λ a ha.
    then-leaves (must kind.PointLimit (λ n. nat_le n p.points) var32_at a.1) _ (must-leaves kind.PointLimit (λ n. nat_le n p.points) var32_at a.1 (var32-leaves a.1 ha)) (λ b hb.
    then-leaves (must kind.FaceLimit (λ n. nat_le n p.faces) var32_at b.1) _ (must-leaves kind.FaceLimit (λ n. nat_le n p.faces) var32_at b.1 (var32-leaves b.1 hb)) (λ d hd.
    then-leaves (must kind.AttrLimit (λ n. nat_le n MAX_ATTRIBUTES) (number_at 1) d.1) _ (must-leaves kind.AttrLimit (λ n. nat_le n MAX_ATTRIBUTES) (number_at 1) d.1 (number-leaves 1 d.1 hd)) (λ e he.
    then-leaves (must kind.Count (λ n. nat_le n d.0) var32_at e.1) _ (must-leaves kind.Count (λ n. nat_le n d.0) var32_at e.1 (var32-leaves e.1 he)) (λ f hf.
    then-leaves (must kind.Count (λ n. nat_le n f.0) var32_at f.1) _ (must-leaves kind.Count (λ n. nat_le n f.0) var32_at f.1 (var32-leaves f.1 hf)) (λ g hg.
    ok-leaves _ g.1 hg))))))

numbers-leave : (symbols : ℕ) (before : _) (c : Reading) → BytesAhead c → LeavesBytes (numbers_at symbols before c)
unfolding numbers_at
numbers-leave symbols before c here =
    let ahead : ℕ → Bool = λ d. nat_lt (before.source + d) symbols in
    then-leaves (must kind.EventDelta ahead var32_at c) _ (must-leaves kind.EventDelta ahead var32_at c (var32-leaves c here)) (λ a ha.
    let back : ℕ → Bool = λ d. nat_le d (before.source + a.0) in
    then-leaves (must kind.EventDelta back var32_at a.1) _ (must-leaves kind.EventDelta back var32_at a.1 (var32-leaves a.1 ha)) (λ b hb. ok-leaves _ b.1 hb))

events-leave : (o : _) (c : Reading) → BytesAhead c → LeavesBytes (events_at o c)
unfolding events_at
events-leave o c here =
    then-leaves (event_count_at o.faces c) _ (must-leaves kind.Count (λ n. nat_le n o.faces) var32_at c (var32-leaves c here)) (λ a ha.
    then-leaves (chain_at (numbers_at o.symbols) a.0 no_numbers a.1) _ (chain-bytes (numbers_at o.symbols) (numbers-leave o.symbols) a.0 no_numbers a.1 ha) (λ b hb.
    then-leaves (bits_at a.0 b.1) _ (bits-leave a.0 b.1 hb) (λ d hd. ok-leaves _ d.1 hd)))

standard-leaves : (c : Reading) → BytesAhead c → LeavesBytes (standard_at c)
unfolding standard_at
standard-leaves c here =
    then-leaves (var64_at c) _ (var64-leaves c here) (λ a ha.
    then-leaves (bytes_at a.0 a.1) _ (bytes-leave a.0 a.1 ha) (λ b hb. ok-leaves _ b.1 hb))

list-leaves : (symbols : ℕ) (c : Reading) → BytesAhead c → LeavesBytes (list_at symbols c)
unfolding list_at
list-leaves symbols c here =
    then-leaves (must kind.Count (λ n. nat_le n symbols) var32_at c) _ (must-leaves kind.Count (λ n. nat_le n symbols) var32_at c (var32-leaves c here)) (λ a ha.
    block-leaves a.0 1 a.1 ha)

standard-behind-leaves : (o : _) (events : List Event) (c : Reading) → BytesAhead c → LeavesBytes (standard_behind o events c)
unfolding standard_behind
standard-behind-leaves o events c here =
    then-leaves (standard_at c) _ (standard-leaves c here) (λ a ha.
    then-leaves (bit_block_at a.1) _ (bit_block-leaves a.1 ha) (λ b hb.
    then-leaves (many_at bit_block_at o.attr_data b.1) _ (many-bytes bit_block_at bit_block-leaves o.attr_data b.1 hb) (λ d hd.
    value-leaves _ _ (λ s. ok-leaves _ d.1 hd))))

valence-behind-leaves : (o : _) (events : List Event) (c : Reading) → BytesAhead c → LeavesBytes (valence_behind o events c)
unfolding valence_behind
valence-behind-leaves o events c here =
    then-leaves (bit_block_at c) _ (bit_block-leaves c here) (λ b hb.
    then-leaves (many_at bit_block_at o.attr_data b.1) _ (many-bytes bit_block_at bit_block-leaves o.attr_data b.1 hb) (λ d hd.
    then-leaves (many_at (list_at o.symbols) CONTEXTS d.1) _ (many-bytes (list_at o.symbols) (list-leaves o.symbols) CONTEXTS d.1 hd) (λ a ha.
    value-leaves _ _ (λ s. ok-leaves _ a.1 ha))))

behind-leaves : (o : _) (c : Reading) → BytesAhead c → LeavesBytes (behind_at o c)
unfolding behind_at
behind-leaves o c here =
    then-leaves (events_at o c) _ (events-leave o c here) (λ a ha.
    either-leaves o.valence _ _ (valence-behind-leaves o a.0 a.1 ha) (standard-behind-leaves o a.0 a.1 ha))

pub connectivity-leaves : (p : Profile) (c : Reading) → BytesAhead c → LeavesBytes (connectivity_at p c)
unfolding connectivity_at
connectivity-leaves p c here =
    then-leaves (opening_at p c) _ (edgebreaker-opening-leaves p c here) (λ a ha. behind-leaves a.0 a.1 ha)
