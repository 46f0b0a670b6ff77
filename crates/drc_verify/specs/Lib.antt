pub mod HeadTests
pub mod Firsts
pub mod RowTests
pub mod SideTests
pub mod Judged
pub mod Laws
pub mod Checked
pub mod GluedLaws
