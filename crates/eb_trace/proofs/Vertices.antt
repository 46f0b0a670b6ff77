-- The number of fans of no faces, of one face more, of a labelled surface, and of one under new numbers.
use Rattle.std.proofs.Common.{◌≡◌, ℕ, suc, ◌+◌, sym, ap, ◌∙◌, subst, arith}
use Rattle.corner_table.specs.Sides.{Side, Gluing, IsGluing}
use Rattle.corner_table.specs.Fans.{InFan}
use Rattle.corner_table.specs.Labels.{label_at}
use Rattle.corner_table.specs.Carried.{carry}
use Rattle.corner_table.specs.Prefixes.{prefix}
use Rattle.corner_table.proofs.Gluings.{more_faces}
use Rattle.corner_table.proofs.Carrying.{carried_gluing, carry-within, carry_onto, fans_carried}
use Rattle.corner_table.proofs.Prefixing.{prefix_whole}
use Rattle.eb_trace.specs.Trace.{fan_count}
use Rattle.eb_trace.specs.Vertices.{NothingHasNone, FaceAddsThree, LabelsAreFans, RenumberedAlike}
use Rattle.eb_trace.proofs.Naming.{IsNaming, namings_agree}
use Rattle.eb_trace.proofs.Adding.{Among, HasFans, base_of, three_new}
use Rattle.eb_trace.proofs.FanCount.{count_none, fan_count_is}

-- whoever counts the fans gets the count of fans
pub fans_are : (faces : ℕ) (g : Gluing) → IsGluing faces g → (k : ℕ) → HasFans faces g k → fan_count faces g ≡ k
fans_are faces g G k (f, N) =
    let t = fan_count_is faces g G in
    namings_agree (InFan g) (Among faces) (fan_count faces g) k t.0 f t.1 N

pub nothing_has_none : NothingHasNone
nothing_has_none g = count_none _

pub face_adds_three : FaceAddsThree
face_adds_three faces g G = go (fan_count_is faces g G)
  where
    whole : prefix faces g ≡ g
    whole = prefix_whole G

    more : prefix (suc faces) g ≡ g
    more = prefix_whole (more_faces (suc faces) (omega arith) G)

    go : HasFans faces g (fan_count faces g) → fan_count (suc faces) g ≡ fan_count faces g + 3
    go (f, N) =
        let M : IsNaming (InFan (prefix faces g)) (Among faces) (fan_count faces g) f = subst (λ (h : Gluing). IsNaming (InFan h) (Among faces) (fan_count faces g) f) (sym whole) N in
        let three = three_new faces g G faces (fan_count faces g) f (base_of faces g (fan_count faces g) f M) (more ∙ sym whole) in
        fans_are (suc faces) g (more_faces (suc faces) (omega arith) G) (fan_count faces g + 3) (subst (λ (h : Gluing). HasFans (suc faces) h (fan_count faces g + 3)) more three)

pub labels_are_fans : LabelsAreFans
labels_are_fans faces g labels count ends G L = sym (fans_are faces g G count (
  label_at labels,
  record {
    bounded = L.bounded;
    used = L.used;
    one = L.one_label;
    fan = L.one_fan;
  },
))

pub renumbered_alike : RenumberedAlike
renumbered_alike faces g h rows G R C =
    let t = fan_count_is faces g G in
    fans_are faces h (carried_gluing G C) (fan_count faces g) (go t.0 t.1)
  where
    go : (f : Side → ℕ) → IsNaming (InFan g) (Among faces) (fan_count faces g) f → HasFans faces h (fan_count faces g)
    go f N = (
      λ x. f (carry rows x),
      record {
        bounded = λ c a. N.bounded (carry rows c) (carry-within R c a);
        used = λ j l. (
            let u = N.used j l in
            let v = carry_onto R u.0 u.1 in
            (v.0, v.1, ap f v.2 ∙ u.2));
        one = λ c d a b p. N.one (carry rows c) (carry rows d) (carry-within R c a) (carry-within R d b) ((fans_carried G R C c d a b).0 p);
        fan = λ c d a b e. (fans_carried G R C c d a b).1 (N.fan (carry rows c) (carry rows d) (carry-within R c a) (carry-within R d b) e);
      },
    )
