pub mod Bitmap
pub mod BitmapCursor
pub mod Varbyte
pub mod VarbyteCursor
pub mod Private
