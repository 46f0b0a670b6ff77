use Rattle.std.proofs.Common.{length, subst, sym}
use Rattle.mesh_model.specs.Renumbering.{NamesApart}
use Rattle.mesh_model.specs.Same.{Rows}
use Rattle.drc_recode.proofs.putting_back.cloud_back.Goals as goal

pub reordered_cloud-requires : goal.reordered_cloud-requires
reordered_cloud-requires c =
    subst (λ (back : Rows). NamesApart (length c.args.cloud.now.points) back) (sym c.as_slice.ensures.value) (subst (λ n. NamesApart n c.in_ok-back.back.items) c.requires c.in_ok-back.ensures.apart)
