-- Attribute by attribute, what is still to be written stands behind what was written.
use Rattle.std.proofs.Common.{◌≡◌, ◌<◌, ◌+◌, ◌++◌, ◌∷◌, ◌∙◌, [], ℕ, ℤ, Bool, List, Option, drop, length, sym, ap, append_assoc, append-nil, arith, get_or}
use Rattle.std.specs.List.{zip}
use Rattle.std.specs.Option.{option_map}
use Rattle.std.proofs.lemmas.List.{drop_all, drop_more}
use Rattle.attr_heads.specs.declared.heads.Head.{Head}
use Rattle.corner_table.specs.Ordered.{Ordered}
use Rattle.predict.specs.Surfaces.{surface_of}
use Rattle.attr_section.specs.declared.values.Values.{Values}
use Rattle.attr_section.specs.Positions.{PositionsRead, with_attribute, entries_on}
use Rattle.attr_section.specs.TablePositions.{read_in}
use Rattle.attr_section.specs.Written.{found_behind, values_bytes, attributes_bytes, ValuesSpelled, AttributesSpelled}
use Rattle.attr_section.proofs.Loops.{zipped, length-zipped}
use Rattle.attr_section.proofs.decoder_writing.put_attributes.Goals as goal

-- what is left, an attribute in front of others
left_is : (heads : List Head) (attributes : List Values) (i : ℕ) (h : Head) (v : Values) → i < length heads → i < length attributes → h ≡ get_or heads i h → v ≡ get_or attributes i v
    → (drop i heads ≡ h ∷ drop (i + 1) heads) × (drop i attributes ≡ v ∷ drop (i + 1) attributes)
left_is heads attributes i h v inside within head value =
    (drop_more heads i h inside ∙ ap (λ (g : Head). g ∷ drop (i + 1) heads) (sym head), drop_more attributes i v within ∙ ap (λ (x : Values). x ∷ drop (i + 1) attributes) (sym value))

bytes_more : (plain : Bool) (w : Option Ordered) (found next : PositionsRead) (gs heads : List Head) (vs attributes : List Values) (h : Head) (v : Values) (out new whole : List ℕ)
    → (gs ≡ h ∷ heads) × (vs ≡ v ∷ attributes) → next ≡ found_behind w found h v → new ≡ out ++ values_bytes plain w found h v
    → out ++ attributes_bytes plain w found gs vs ≡ whole → new ++ attributes_bytes plain w next heads attributes ≡ whole
bytes_more plain w found next gs heads vs attributes h v out new whole (first, second) is made so =
    let bytes = values_bytes plain w found h v in
    let others = attributes_bytes plain w (found_behind w found h v) heads attributes in
    let left : attributes_bytes plain w found gs vs ≡ bytes ++ others = ap (λ (l : List Head). attributes_bytes plain w found l vs) first ∙ ap (λ (l : List Values). attributes_bytes plain w found (h ∷ heads) l) second in
    ap (λ (f : PositionsRead). new ++ attributes_bytes plain w f heads attributes) is
    ∙ ap (λ (l : List ℕ). l ++ others) made
    ∙ append_assoc out bytes others
    ∙ ap (λ (l : List ℕ). out ++ l) (sym left)
    ∙ so

spelled_more : (plain : Bool) (w : Option Ordered) (found next : PositionsRead) (gs heads : List Head) (vs attributes : List Values) (h : Head) (v : Values) (P : Type 0)
    → (gs ≡ h ∷ heads) × (vs ≡ v ∷ attributes) → next ≡ found_behind w found h v → ValuesSpelled plain w found h v
    → (AttributesSpelled plain w found gs vs → P) → AttributesSpelled plain w next heads attributes → P
spelled_more plain w found next gs heads vs attributes h v P (first, second) is spelled so others =
    so (rw (first, second) (spelled, rw is at others))

pub put_values-requires-clause-values : goal.put_values-requires-clause-values
put_values-requires-clause-values c =
    let h = c.index-heads-i.result in
    let v = c.index-attributes-i.result in
    let here : c.loop-i.i < length (zip c.args.heads.now c.args.attributes.now) = omega (arith, length-zipped c.args.heads.now c.args.attributes.now c.requires.each_head) in
    let at = zipped c.args.heads.now c.args.attributes.now c.loop-i.i h v c.requires.each_head c.loop-i-test.true c.index-heads-i.is c.index-attributes-i.is in
    rw (sym at) at (c.requires.each c.loop-i.i (h, v) here)

pub loop-i-preserved : goal.loop-i-preserved
loop-i-preserved c =
    let w = surface_of (option_map (λ t. t.now) c.args.on) in
    let h = c.index-heads-i.result in
    let v = c.index-attributes-i.result in
    let i = c.loop-i.i in
    let heads = c.args.heads.now in
    let attributes = c.args.attributes.now in
    let within : i < length attributes = omega (arith, c.requires.each_head, c.loop-i-test.true) in
    let left = left_is heads attributes i h v c.loop-i-test.true within c.index-heads-i.is c.index-attributes-i.is in
    let next : read_in c.with_one-positions.result ≡ found_behind w (read_in c.loop-i.positions) h v =
    c.with_one-positions.ensures ∙ ap (λ (l : List ℤ). with_attribute (read_in c.loop-i.positions) h l (entries_on w)) c.as_slice.ensures.items in (
      bytes_more c.args.plain w (read_in c.loop-i.positions) (read_in c.with_one-positions.result) (drop i heads) (drop (i + 1) heads) (drop i attributes) (drop (i + 1) attributes) h v
          c.loop-i.out.items c.put_values.new.out.items (c.args.out.now.items ++ attributes_bytes c.args.plain w (read_in c.args.found) heads attributes) left next c.in_ok-put_values.ensures.bytes c.loop-i.invariant.0,
      spelled_more c.args.plain w (read_in c.loop-i.positions) (read_in c.with_one-positions.result) (drop i heads) (drop (i + 1) heads) (drop i attributes) (drop (i + 1) attributes) h v
          (AttributesSpelled c.args.plain w (read_in c.args.found) heads attributes) left next c.in_ok-put_values.ensures.again c.loop-i.invariant.1,
    )

pub returns-clause-bytes : goal.returns-clause-bytes
returns-clause-bytes c =
    let w = surface_of (option_map (λ t. t.now) c.args.on) in
    let done : drop c.loop-i.i c.args.heads.now ≡ [] = drop_all c.loop-i.i c.args.heads.now (omega arith) in
    sym (append-nil c.loop-i.out.items)
    ∙ ap (λ (l : List Head). c.loop-i.out.items ++ attributes_bytes c.args.plain w (read_in c.loop-i.positions) l (drop c.loop-i.i c.args.attributes.now)) (sym done)
    ∙ c.loop-i.invariant.0

pub returns-clause-again : goal.returns-clause-again
returns-clause-again c =
    let done : drop c.loop-i.i c.args.heads.now ≡ [] = drop_all c.loop-i.i c.args.heads.now (omega arith) in
    c.loop-i.invariant.1 (rw done tt)
