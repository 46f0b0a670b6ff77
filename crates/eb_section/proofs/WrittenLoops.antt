-- Lists whose bytes are written item by item.
use Rattle.std.proofs.Common.{◌≡◌, ℕ, ◌+◌, ◌<◌, ◌≤◌, Bool, true, false, List, [], ◌∷◌, ◌++◌, All, length, map, flat_map, take, drop, get_or, if◌then◌else◌, sym, refl, ap, ◌∙◌, subst, arith, append_assoc, append-nil}
use Rattle.std.proofs.lemmas.List.{take_more, drop_more, drop_all, flat_map_more, get_or-map, length-map, map_more}
use Rattle.std.proofs.lemmas.List.Elements.{All-more}
use Rattle.drc_bits.specs.Bits.{low_bits}
use Rattle.corner_table.specs.declared.symbols.Event.{Event}
use Rattle.eb_trace.specs.Writable.{RiseFrom}
use Rattle.eb_section.specs.Written.{event_bytes, numbers_bytes, side_bit}

-- ---- lists of blocks

-- one item more is written, and read again
pub record NextWritten {A : Type 0} (bytes : A → List ℕ) (P : A → Type 0) (xs : List A) (i : ℕ) (front after : List ℕ) : Type 0 where
  pub bytes_are : after ≡ front ++ flat_map bytes (take (i + 1) xs)
  pub all : All P (take (i + 1) xs)

pub next-written : {A : Type 0} (bytes : A → List ℕ) (P : A → Type 0) (xs : List A) (i : ℕ) (x d : A) (front before after : List ℕ)
    → i < length xs → x ≡ get_or xs i d → before ≡ front ++ flat_map bytes (take i xs) → All P (take i xs) → after ≡ before ++ bytes x → P x
    → NextWritten bytes P xs i front after
next-written bytes P xs i x d front before after below is so all more here = record {
  bytes_are = more ∙ ap (λ l. l ++ bytes x) so ∙ flat_map_more bytes front (take i xs) x
      ∙ ap (λ l. front ++ flat_map bytes l) (ap (λ y. take i xs ++ y ∷ []) is ∙ sym (take_more xs i d below));
  all = All-more P xs i d below all (subst P is here);
}

-- so where the items are parts of other items
pub next-mapped : {A B : Type 0} (view : A → B) (bytes : B → List ℕ) (P : B → Type 0) (xs : List A) (i : ℕ) (x : A) (y : B) (front before after : List ℕ)
    → i < length xs → x ≡ get_or xs i x → y ≡ view x → before ≡ front ++ flat_map bytes (take i (map view xs)) → All P (take i (map view xs)) → after ≡ before ++ bytes y → P y
    → NextWritten bytes P (map view xs) i front after
next-mapped view bytes P xs i x y front before after below is so held all more here =
    let here_is : y ≡ get_or (map view xs) i y = so ∙ ap view is ∙ sym (get_or-map view xs i x y below) in
    let inside : i < length (map view xs) = omega (arith, length-map xs view, below) in
    next-written bytes P (map view xs) i y y front before after inside here_is held all more here

-- ---- events

-- the numbers of one event more are written
pub record NextNumbers (events : List Event) (i : ℕ) (e : Event) (next whole : List ℕ) : Type 0 where
  pub bytes : next ++ numbers_bytes e.source (drop (i + 1) events) ≡ whole
  pub rise : RiseFrom e.source (drop (i + 1) events)

pub next-numbers : (events : List Event) (i before : ℕ) (d : Event) (front next whole : List ℕ)
    → i < length events
    → front ++ numbers_bytes before (drop i events) ≡ whole → RiseFrom before (drop i events) → next ≡ front ++ event_bytes before (get_or events i d)
    → NextNumbers events i (get_or events i d) next whole
unfolding numbers_bytes
next-numbers events i before d front next whole below so rise is =
    let e : Event = get_or events i d in
    let more : drop i events ≡ e ∷ drop (i + 1) events = drop_more events i d below in
    let rest : List ℕ = numbers_bytes e.source (drop (i + 1) events) in
    record {
      bytes = ap (λ l. l ++ rest) is ∙ append_assoc front (event_bytes before e) rest ∙ ap (λ l. front ++ numbers_bytes before l) (sym more) ∙ so;
      rise = (subst (RiseFrom before) more rise).1;
    }

-- no event is left
pub all-numbers : (events : List Event) (i before : ℕ) (front whole : List ℕ) → length events ≤ i → front ++ numbers_bytes before (drop i events) ≡ whole → front ≡ whole
unfolding numbers_bytes
all-numbers events i before front whole done so =
    sym (append-nil front) ∙ ap (λ l. front ++ numbers_bytes before l) (sym (drop_all i events done)) ∙ so

low-bit : (right : Bool) → low_bits 1 (if right then 1 else 0) ≡ (if right then 1 else 0) ∷ []
unfolding low_bits
low-bit true = refl
low-bit false = refl

-- the bit of one event more is written
pub next-side : (events : List Event) (i bit : ℕ) (d : Event) (before after : List ℕ)
    → i < length events → before ≡ map side_bit (take i events) → bit ≡ side_bit (get_or events i d) → after ≡ before ++ low_bits 1 bit
    → after ≡ map side_bit (take (i + 1) events)
next-side events i bit d before after below so is more =
    more ∙ ap (λ l. l ++ low_bits 1 bit) so ∙ ap (λ b. map side_bit (take i events) ++ low_bits 1 b) is
    ∙ ap (λ l. map side_bit (take i events) ++ l) (low-bit (get_or events i d).right)
    ∙ sym (map_more side_bit events i d below)
