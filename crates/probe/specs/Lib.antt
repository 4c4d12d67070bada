pub mod Results
pub mod Files
pub mod StrayLaws
pub mod ByteLaws
pub mod StrayKeys
