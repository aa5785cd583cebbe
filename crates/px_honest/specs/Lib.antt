pub mod HonestLinks
