pub mod BlockLaws
pub mod PaddingLaws
pub mod SealLaws
pub mod Sha1Laws
