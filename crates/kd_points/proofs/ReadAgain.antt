-- A written file is read again: its header, its two blocks, and its points.
use Rattle.std.proofs.Common.{◌≡◌, ℕ, ◌+◌, ◌*◌, ◌<◌, ◌≤◌, Bool, false, not, get_or, is_some, Option, List, [], ◌∷◌, ◌++◌, length, flat_map, None, Some, Ok, refl, sym, ◌∙◌, ap, subst, arith, append_assoc}
use Rattle.std.specs.Prelude.{◌==◌, nat_le, nat_lt, nat_eq, position}
use Rattle.std.specs.Cmp.Lexicographic.{pointwise}
use Rattle.std.specs.List.{All}
use Rattle.std.proofs.lemmas.Bool.{le-leb, lt-ltb, leb-true, ltb-true}
use Rattle.std.proofs.lemmas.List.{length-map, map-id}
use Rattle.drc_base.specs.declared.faults.Fault.{Fault}
use Rattle.drc_base.specs.declared.kinds.Kind.TheVariants as kind
use Rattle.drc_base.specs.declared.limits.TheConstants.{MAX_ATTRIBUTES, MAX_KD_POINTS, MAX_KD_VALUES}
use Rattle.drc_bits.specs.Reading.{must, many_at, bytes_at, start_of}
use Rattle.drc_bits.specs.Numbers.{number_at}
use Rattle.drc_bits.specs.Varint.{var32_at, spelling}
use Rattle.drc_bits.specs.Spells.{Spells}
use Rattle.drc_bits.proofs.Spelled.{Spells-all, Spells-then, Spells-must, Spells-byte, Spells-bytes, Spells-var32}
use Rattle.rans_binary.specs.Blocks.{IsBlockOf, behind, block, first_bits}
use Rattle.attr_heads.specs.declared.heads.Head.{Head}
use Rattle.mesh_model.specs.declared.geometries.Geometry.TheVariants.{Cloud}
use Rattle.mesh_model.specs.Contents.{is_mesh}
use Rattle.attr_heads.specs.FirstFault.{unless}
use Rattle.attr_heads.specs.Head.{width_of}
use Rattle.mesh_model.specs.Parts.{CloudParts, IsCloud}
use Rattle.mesh_model.specs.Same.{Rows}
use Rattle.attr_heads.proofs.FirstFaults.{first_fault-none, unless-none, at_place-none}
use Rattle.mesh_model.proofs.Places.{position-none_back}
use Rattle.attr_heads.proofs.Passing.{HeadsSay, heads_say}
use Rattle.kd_tree.specs.Laws.{TreesAreReadAgain}
use Rattle.kd_tree.specs.Order.{IsKdOrder}
use Rattle.kd_tree.specs.Reading.{Streams, tree_of}
use Rattle.kd_tree.specs.Trees.{rest_bits, split_bits}
use Rattle.kd_tree.proofs.Again.{read-again}
use Rattle.kd_tree.proofs.Counts.{long-at, rest-few, split-few}
use Rattle.kd_tree.proofs.Sorted.{sorted-long, sorted-moved, sorted-settled}
use Rattle.kd_tree.proofs.Unordered.{rest-same, same-counts, split-same}
use Rattle.kd_points.specs.declared.headers.Header.{Header}
use Rattle.kd_points.specs.Extents.{depth_of, extents_of, key_within, keys_of}
use Rattle.kd_points.specs.Header.{kd_attribute_count_at, extent_at, kd_head_at, kd_header_at, kd_heads_at, kd_magic, kd_opening_at, point_count_at, version}
use Rattle.kd_points.specs.Laws.{KdHeadFits, IsFileOf}
use Rattle.kd_points.specs.Meaning.{file_at, kd_meaning, tree_at}
use Rattle.kd_points.specs.Written.{KdOrder, extent_bytes, kd_head_bytes, kd_header_bytes, square_fault, kd_fault, kd_written, rest_of, kd_split_of}
use Rattle.kd_points.proofs.Blocked.{bits_few, few-again}
use Rattle.kd_points.proofs.Clouded.{cloud_inside}
use Rattle.kd_points.proofs.Counting.{keys_long}
use Rattle.kd_points.proofs.Lying.{length-extents_of}
use Rattle.kd_points.proofs.ReadPoints.{all_inside, length-sorted, rows_by, same_points, sorted_keys, sorted_points}
use Rattle.kd_points.proofs.RowsBack.{depth_few, extent_fits}
use Rattle.kd_points.proofs.Spelling.{Spells-extent, Spells-head}

-- the first bytes and the version
Spells-opening : Spells kd_opening_at (kd_magic ++ version ∷ []) version
unfolding kd_opening_at
Spells-opening =
    Spells-then (must kind.KdMagic (λ bytes. pointwise nat_eq bytes kd_magic) (bytes_at 5)) (λ first c. must kind.KdVersion (λ n. n == version) (number_at 1) c)
    kd_magic (version ∷ []) kd_magic version
    (Spells-must kind.KdMagic (λ bytes. pointwise nat_eq bytes kd_magic) (bytes_at 5) kd_magic kd_magic refl (Spells-bytes kd_magic))
    (Spells-must kind.KdVersion (λ n. n == version) (number_at 1) (version ∷ []) version refl (Spells-byte version))

-- the heads
Spells-count : (n : ℕ) → 1 ≤ n → n ≤ MAX_ATTRIBUTES → Spells kd_attribute_count_at (spelling 5 n) n
unfolding kd_attribute_count_at
Spells-count n some few =
    Spells-must kind.AttrLimit (λ n. nat_le n MAX_ATTRIBUTES) (must kind.NoAttribute (λ n. nat_lt 0 n) var32_at) (spelling 5 n) n (le-leb n MAX_ATTRIBUTES few)
    (Spells-must kind.NoAttribute (λ n. nat_lt 0 n) var32_at (spelling 5 n) n (lt-ltb 0 n (omega (arith, some))) (Spells-var32 n (omega (arith, few))))

Spells-heads : (heads : List Head) → All (λ h. h.octa ≡ None) heads → HeadsSay heads → All KdHeadFits heads → Spells kd_heads_at (spelling 5 (length heads) ++ flat_map kd_head_bytes heads) heads
unfolding kd_heads_at
Spells-heads heads unsquared says fit =
    Spells-then kd_attribute_count_at (λ n c. many_at kd_head_at n c) (spelling 5 (length heads)) (flat_map kd_head_bytes heads) (length heads) heads
    (Spells-count (length heads) says.some says.few)
    (subst (λ l. Spells (many_at kd_head_at (length heads)) (flat_map kd_head_bytes heads) l) (map-id heads)
    (Spells-all kd_head_at kd_head_bytes (λ h. h) heads (λ k d inside. Spells-head _ (unsquared k d inside) (says.each k d inside) (fit k d inside))))

-- the number of points
Spells-points : (n width : ℕ) → 0 < n → n ≤ MAX_KD_POINTS → n * width ≤ MAX_KD_VALUES → Spells (point_count_at width) (spelling 5 n) n
unfolding point_count_at
Spells-points n width some few values =
    let limit = must kind.PointLimit (λ n. nat_le n MAX_KD_POINTS) var32_at in
    Spells-must kind.Empty (λ n. nat_lt 0 n) (must kind.KdLimit (λ n. nat_le (n * width) MAX_KD_VALUES) limit) (spelling 5 n) n (lt-ltb 0 n some)
    (Spells-must kind.KdLimit (λ n. nat_le (n * width) MAX_KD_VALUES) limit (spelling 5 n) n (le-leb (n * width) MAX_KD_VALUES values)
    (Spells-must kind.PointLimit (λ n. nat_le n MAX_KD_POINTS) var32_at (spelling 5 n) n (le-leb n MAX_KD_POINTS few) (Spells-var32 n (omega (arith, few)))))

-- what a cloud that is written has
record HasLimits (c : CloudParts) : Type 0 where
  unsquared : All (λ h. h.octa ≡ None) c.heads
  some : 0 < length c.points
  few : length c.points ≤ MAX_KD_POINTS
  values : length c.points * width_of c.heads ≤ MAX_KD_VALUES

no_squares : (heads : List Head) → position (λ h. is_some h.octa) heads ≡ None → All (λ h. h.octa ≡ None) heads
no_squares heads none = λ k d inside. none_is (get_or heads k d).octa (position-none_back (λ (h : Head). is_some h.octa) heads none k d inside)
  where
    none_is : (o : Option ℕ) → is_some o ≡ false → o ≡ None
    none_is None e = refl
    none_is (Some bits) e = cc

limits : (c : CloudParts) → kd_fault (Cloud c) ≡ None → HasLimits c
unfolding kd_fault
limits c none =
    let n = length c.points in
    let values = n * width_of c.heads in
    let t1 = unless (not (is_mesh (Cloud c))) kind.KdMesh 0 in
    let t0 = square_fault (Cloud c) in
    let t2 = unless (nat_lt 0 n) kind.Empty 0 in
    let t3 = unless (nat_le n MAX_KD_POINTS) kind.PointLimit n in
    let t4 = unless (nat_le values MAX_KD_VALUES) kind.KdLimit values in
    let m = first_fault-none t1 (t0 ∷ t2 ∷ t3 ∷ t4 ∷ []) none in
    let a = first_fault-none t0 (t2 ∷ t3 ∷ t4 ∷ []) m.1 in
    let b = first_fault-none t2 (t3 ∷ t4 ∷ []) a.1 in
    let d = first_fault-none t3 (t4 ∷ []) b.1 in
    let e = first_fault-none t4 [] d.1 in
    record {
      unsquared = no_squares c.heads (at_place-none kind.Octahedral _ a.0);
      some = ltb-true 0 n (unless-none (nat_lt 0 n) kind.Empty 0 b.0);
      few = leb-true n MAX_KD_POINTS (unless-none (nat_le n MAX_KD_POINTS) kind.PointLimit n d.0);
      values = leb-true values MAX_KD_VALUES (unless-none (nat_le values MAX_KD_VALUES) kind.KdLimit values e.0);
    }

-- the extents of a cloud are read back
Spells-extents : (c : CloudParts) → IsCloud c → HasLimits c → Spells (many_at extent_at (width_of c.heads)) (flat_map extent_bytes (extents_of c)) (extents_of c)
Spells-extents c cloud has =
    let extents = extents_of c in
    subst (λ n. Spells (many_at extent_at n) (flat_map extent_bytes extents) extents) (length-extents_of c)
    (subst (λ l. Spells (many_at extent_at (length extents)) (flat_map extent_bytes extents) l) (map-id extents)
    (Spells-all extent_at extent_bytes (λ e. e) extents (λ k d inside. (let fits = extent_fits c cloud has.some k d inside in Spells-extent _ fits.0 fits.1))))

regroup : (a b p e rest : List ℕ) → (a ++ (b ++ (p ++ e))) ++ rest ≡ (a ++ b) ++ (p ++ (e ++ rest))
regroup a b p e rest =
    append_assoc a (b ++ (p ++ e)) rest
    ∙ ap (λ x. a ++ x) (append_assoc b (p ++ e) rest ∙ ap (λ x. b ++ x) (append_assoc p e rest))
    ∙ sym (append_assoc a b (p ++ (e ++ rest)))

-- the header of a file, and where it ends
record HeaderRead (c : CloudParts) (rest : List ℕ) : Type 0 where
  at : ℕ
  end : ℕ
  reads : kd_header_at (start_of (kd_header_bytes c ++ rest))
      ≡ Ok (record { heads = c.heads; count = length c.points; extents = extents_of c; at = at }, record { place = end; rest = rest })

header_read : (c : CloudParts) (rest : List ℕ) → IsCloud c → HasLimits c → All KdHeadFits c.heads → HeaderRead c rest
unfolding kd_header_at kd_header_bytes
header_read c rest cloud has fit =
    let n = length c.points in
    let opening : List ℕ = kd_magic ++ version ∷ [] in
    let heads = spelling 5 (length c.heads) ++ flat_map kd_head_bytes c.heads in
    let count = spelling 5 n in
    let extents = flat_map extent_bytes (extents_of c) in
    let one : ℕ = 0 + length opening in
    let two = one + length heads in
    let three = two + length count in
    let whole : (kd_magic ++ version ∷ spelling 5 (length c.heads) ++ (flat_map kd_head_bytes c.heads ++ (spelling 5 n ++ extents))) ++ rest
    ≡ opening ++ (heads ++ (count ++ (extents ++ rest))) = ap (λ bytes. opening ++ bytes) (regroup (spelling 5 (length c.heads)) (flat_map kd_head_bytes c.heads) count extents rest) in
    let first = Spells-opening.reads 0 (heads ++ (count ++ (extents ++ rest))) in
    let second = (Spells-heads c.heads has.unsquared (heads_say c.heads cloud.heads_pass) fit).reads one (count ++ (extents ++ rest)) in
    let third = (Spells-points n (width_of c.heads) has.some has.few has.values).reads two (extents ++ rest) in
    let fourth = (Spells-extents c cloud has).reads three rest in
    record { at = three; end = three + length extents; reads = ap (λ bytes. kd_header_at (start_of bytes)) whole ∙ rw (first, second, third, fourth) refl }

-- the tree of a file, and where it ends
record TreeRead (c : CloudParts) (order : List ℕ) (place : ℕ) (rest : List ℕ) : Type 0 where
  end : ℕ
  reads : tree_at (depth_of (extents_of c)) (length c.points) (record { place = place; rest = (block (kd_split_of c) ++ block (rest_of c)) ++ rest })
      ≡ Ok (sorted_keys c order, record { place = end; rest = rest })

trees : TreesAreReadAgain
trees fault depth keys s small long settled split rest =
    read-again fault depth 0 [] keys s small (λ k e h. (long k e h ∙ (let z : depth ≡ 0 + depth = omega arith in z), refl)) settled split rest

tree_read : (c : CloudParts) (order : List ℕ) (place : ℕ) (more : List ℕ) → HasLimits c → IsKdOrder (keys_of c) order
    → IsBlockOf (kd_split_of c) (block (kd_split_of c)) → IsBlockOf (rest_of c) (block (rest_of c)) → TreeRead c order place more
unfolding tree_at
tree_read c order place more has is split rest =
    let depth = depth_of (extents_of c) in
    let keys = keys_of c in
    let sorted = sorted_keys c order in
    let fault : Fault = record { kind = kind.KdSplit; at = place } in
    let s : Streams = record { split = split.start; rest = rest.start } in
    let counts = same-counts keys sorted (sorted-moved keys order is) in
    let split_fed : first_bits (length (split_bits depth 0 sorted)) split.start ≡ split_bits depth 0 sorted =
    subst (λ (b : List Bool). first_bits (length b) split.start ≡ b) (split-same depth 0 keys sorted counts) split.first in
    let rest_fed : first_bits (length (rest_bits depth 0 sorted)) rest.start ≡ rest_bits depth 0 sorted =
    subst (λ (b : List Bool). first_bits (length b) rest.start ≡ b) (rest-same depth 0 keys sorted counts) rest.first in
    let many = length-sorted c order is in
    let read = trees fault depth sorted s (omega (arith, many, has.few)) (sorted-long depth keys order (keys_long c) is) (sorted-settled depth keys order (keys_long c) is) split_fed rest_fed in
    let after : Streams = record { split = behind (length (split_bits depth 0 sorted)) s.split; rest = behind (length (rest_bits depth 0 sorted)) s.rest } in
    let due : tree_of fault depth (length c.points) s ≡ Ok (sorted, after) = subst (λ n. tree_of fault depth n s ≡ Ok (sorted, after)) many read in
    let one = place + length (block (kd_split_of c)) in
    let first = split.spells.reads place (block (rest_of c) ++ more) in
    let second = rest.spells.reads one more in
    record {
      end = one + length (block (rest_of c));
      reads = ap (λ bytes. tree_at depth (length c.points) (record { place = place; rest = bytes })) (append_assoc (block (kd_split_of c)) (block (rest_of c)) more)
          ∙ rw (first, second, due) refl;
    }

-- the two blocks of a cloud that is written
split_again : (c : CloudParts) → IsCloud c → HasLimits c → IsBlockOf (kd_split_of c) (block (kd_split_of c))
split_again c cloud has =
    let extents = extents_of c in
    let most = split-few (depth_of extents) 0 (keys_of c) in
    let many = length-map c.points (key_within extents) in
    let total : length (kd_split_of c) ≤ length c.points * depth_of extents = subst (λ n. length (kd_split_of c) ≤ n * depth_of extents) many most in
    few-again (kd_split_of c) (bits_few (length c.points) (depth_of extents) (width_of c.heads) (length (kd_split_of c)) total (depth_few c cloud has.some) has.values)

rest_again : (c : CloudParts) → IsCloud c → HasLimits c → IsBlockOf (rest_of c) (block (rest_of c))
rest_again c cloud has =
    let extents = extents_of c in
    let depth = depth_of extents in
    let most = rest-few depth 0 (keys_of c) (long-at depth (0 + depth) (keys_of c) (omega arith) (keys_long c)) in
    let many = length-map c.points (key_within extents) in
    let total : length (rest_of c) ≤ length c.points * depth = subst (λ n. length (rest_of c) ≤ n * depth) many most in
    few-again (rest_of c) (bits_few (length c.points) depth (width_of c.heads) (length (rest_of c)) total (depth_few c cloud has.some) has.values)

-- the file
file_by : (c : CloudParts) (order more : List ℕ) → IsCloud c → HasLimits c → All KdHeadFits c.heads → IsKdOrder (keys_of c) order → IsFileOf c (kd_written c ++ more) (rows_by order)
unfolding kd_written file_at
file_by c order more cloud has fit is =
    let blocks = block (kd_split_of c) ++ block (rest_of c) in
    let front = header_read c (blocks ++ more) cloud has fit in
    let tree = tree_read c order front.end more has is (split_again c cloud has) (rest_again c cloud has) in
    let header : Header = record { heads = c.heads; count = length c.points; extents = extents_of c; at = front.at } in
    let points = cloud_inside header (sorted_keys c order) (width_of c.heads) (all_inside c order cloud is) refl in
    record {
      cloud = record { heads = c.heads; points = sorted_points c order };
      reads = ap (λ bytes. kd_meaning bytes) (append_assoc (kd_header_bytes c) blocks more) ∙ rw (front.reads, tree.reads, points) refl;
      same = same_points c order cloud is;
    }

pub file_again : (c : CloudParts) (rows : Rows) (more : List ℕ) → IsCloud c → kd_fault (Cloud c) ≡ None → All KdHeadFits c.heads → KdOrder c rows → IsFileOf c (kd_written c ++ more) rows
file_again c rows more cloud none fit order =
    subst (λ (r : Rows). IsFileOf c (kd_written c ++ more) r) (sym order.rows_are) (file_by c order.order more cloud (limits c none) fit order.ordered)
