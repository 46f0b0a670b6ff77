-- Answers of calls that take no memory, and faults of what a stream declares.
use Rattle.drc_base.specs.Profile.{profile}
use Rattle.std.proofs.Common.{◌≡◌, ℕ, List, Result, Ok, Err, refl, sym, ◌∙◌, ap, subst}
use Rattle.drc_base.specs.declared.faults.Fault.{Fault}
use Rattle.drc_base.specs.declared.faults.Refusal.{Refusal}
use Rattle.drc_base.specs.Refusals.{Answers, Refuses}
use Rattle.drc_base.specs.Steps.{◌>>=◌}
use Rattle.drc_bits.specs.Reading.{Reading, Item, start_of}
use Rattle.drc_bits.proofs.Results.{err≢ok, Err-injective}
use Rattle.attr_heads.specs.FirstFault.{answer_of}
use Rattle.drc_container.specs.declared.headers.Form.{Form}
use Rattle.drc_container.specs.Header.{header_at}
use Rattle.drc_container.specs.reading.Stream.{declared_of, form_declared_at}
use Rattle.seq_section.specs.declared.reading.SeqRead.{SeqRead}
use Rattle.seq_section.specs.Indices.{indices_opening_at, indices_at}

pub Answers-answer_of : {A : Type 0} (r : Result A Fault) → Answers (λ x. x) r (answer_of r)
Answers-answer_of (Ok x) = refl
Answers-answer_of (Err f) = refl

-- what such a call refuses is refused by what it begins
pub Answers-refused : {A B C : Type 0} (view : C → B) (due : Result A Fault) (next : A → Result B Fault) (e : Refusal)
    → ◌≡◌ {A = Result A Refusal} (Err e) (answer_of due) → Answers view (due >>= next) (Err e)
Answers-refused view (Ok x) next e is = absurd (err≢ok is)
Answers-refused view (Err f) next e is = subst (Refuses (Err f)) (sym (Err-injective is)) refl

-- the place behind an item is a fault where the item is
pub place-fault : {A : Type 0} (item : Item A) (f : Fault) → (item >>= λ x. Ok x.1.place) ≡ Err f → item ≡ Err f
place-fault (Ok x) f is = absurd (err≢ok (sym is))
place-fault (Err e) f is = ap Err (Err-injective is)

-- indices that were read have no fault in their opening
pub opening-passed : (c d : Reading) (r : SeqRead) (f : Fault) → indices_at profile c ≡ Ok (r, d) → indices_opening_at profile c ≡ Err f → ⊥
unfolding indices_at
opening-passed c d r f read fault = err≢ok {e = f} (sym (rw fault refl) ∙ read)

-- a header's fault is that of what is declared
pub declared-header : (bytes : List ℕ) (c : Reading) (e f : Fault) → c ≡ start_of bytes → header_at c ≡ Err e → declared_of bytes ≡ Err f → e ≡ f
unfolding declared_of
declared-header bytes c e f at is front = Err-injective (sym (rw (← at, is) refl) ∙ front)

-- behind a header that was read, what is declared goes on
pub declared-behind : (bytes : List ℕ) (c d : Reading) (form said : Form) (f : Fault) → c ≡ start_of bytes → header_at c ≡ Ok (form, d) → form ≡ said
    → declared_of bytes ≡ Err f → form_declared_at said d ≡ Err f
unfolding declared_of
declared-behind bytes c d form said f at is says front = rw (← says) (sym (rw (← at, is) refl) ∙ front)
